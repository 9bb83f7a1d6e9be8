-- the rows so far go on with the entries that are still to come
use Rattle.std.proofs.Common.{◌≡◌, ◌++◌, drop}
use Rattle.dnp_store.proofs.book_entries.first_over.Given as goal

abbrev pub invariant-loop-entry : goal.invariant-loop-entry
invariant-loop-entry l = l.rows.items ++ drop l.entry-index l.first ≡ l.first
