-- The entries so far are past pending.
use Rattle.std.proofs.Common.{◌≡◌, take, false}
use Rattle.std.specs.Prelude.{All}
use Rattle.dnp_controls.specs.Book.{is_pending}
use Rattle.dnp_store.proofs.book_entries.count_past.Given as goal

abbrev pub invariant-loop-place : goal.invariant-loop-place
invariant-loop-place l = All (λ entry. is_pending entry.state ≡ false) (take l.place l.entries)
