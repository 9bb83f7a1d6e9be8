use Rattle.std.proofs.Common.{drop}
use Rattle.dnp_eventbuf.specs.EventBuffer.{EventBuffer}
use Rattle.dnp_store.specs.steps.Shown.{Restores}
use Rattle.dnp_store.proofs.decoding.restore_rows.Given as goal

-- with the rows that are still to come all are put back, and if all can be, those can
abbrev pub invariant-loop-row : goal.invariant-loop-row
invariant-loop-row l = record {
  put : (b : EventBuffer) → Restores l.last (drop l.row-index l.rows) l.lanes b → Restores 0 l.rows l.fn.lanes b;
  left : (b : EventBuffer) → Restores 0 l.rows l.fn.lanes b → Restores l.last (drop l.row-index l.rows) l.lanes b;
}
