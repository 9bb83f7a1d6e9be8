use Rattle.std.proofs.Common.{◌≡◌, ◌<◌, ℕ, [], length}
use Rattle.std.specs.Prelude.{slice_index_or}
use Rattle.dnp_store.specs.BookTables.{FitsControl}
use Rattle.dnp_store.specs.steps.BookShown.{ShowsEntry, no_entry}
use Rattle.dnp_store.proofs.book_decoding.put_entries.Given as goal

-- the rows so far are decoded
abbrev pub invariant-loop-number : goal.invariant-loop-number
invariant-loop-number l = record {
  long : length l.entries.items ≡ l.number;
  fit : (k : ℕ) → k < l.number → FitsControl (slice_index_or l.entries.items k no_entry);
  shown : (k : ℕ) → k < l.number → ShowsEntry (slice_index_or l.rows k []) (slice_index_or l.entries.items k no_entry);
}
