use Rattle.std.proofs.Common.{◌≡◌, drop}
use Rattle.dnp_controls.specs.Book.{next_of}
use Rattle.dnp_store.proofs.book_entries.first_pending.Given as goal

-- none of the entries so far is the next one
abbrev pub invariant-loop-entry : goal.invariant-loop-entry
invariant-loop-entry l = next_of (drop l.entry-index l.entries) l.target ≡ next_of l.entries l.target
