use Rattle.std.proofs.Common.{drop}
use Rattle.dnp_store.specs.steps.BookShown.{EntriesRise}
use Rattle.dnp_store.proofs.book_decoding.are_in_order.Given as goal

-- all are in order if those that are still to come are, and only then
abbrev pub invariant-loop-entry : goal.invariant-loop-entry
invariant-loop-entry l = record {
  rise : EntriesRise l.before l.last (drop l.entry-index l.entries) → EntriesRise 0 l.last l.entries;
  found : EntriesRise 0 l.last l.entries → EntriesRise l.before l.last (drop l.entry-index l.entries);
}
