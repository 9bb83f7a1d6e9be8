use Rattle.std.proofs.Common.{◌≡◌, ◌<◌, ℕ, [], length}
use Rattle.std.specs.Prelude.{slice_index_or}
use Rattle.dnp_store.specs.steps.JournalShown.{ShowsEvent, no_event}
use Rattle.dnp_store.proofs.journal_decoding.events_in.Given as goal

-- the rows so far are decoded
abbrev pub invariant-loop-number : goal.invariant-loop-number
invariant-loop-number l = record {
  long : length l.events.items ≡ l.number;
  shown : (k : ℕ) → k < l.number → ShowsEvent (slice_index_or l.rows k []) (slice_index_or l.events.items k no_event);
}
