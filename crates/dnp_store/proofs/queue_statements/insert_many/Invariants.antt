use Rattle.std.proofs.Common.{◌≡◌, length, map, take}
use Rattle.sqlite.specs.Values.{bound}
use Rattle.dnp_store.specs.declared.cells.TheConstants.{MANY}
use Rattle.dnp_store.proofs.QueueStatements.{insert_params}
use Rattle.dnp_store.proofs.Holding.{queued_for}
use Rattle.dnp_store.proofs.queue_statements.insert_many.Given as goal

-- the rows so far are given
abbrev pub invariant-loop-number : goal.invariant-loop-number
invariant-loop-number g l = record {
  long : length l.given ≡ MANY;
  given : map bound (take l.number l.given) ≡ map (λ x. insert_params (queued_for 0 x)) (take l.number l.rows);
}
