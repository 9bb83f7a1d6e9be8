use Rattle.std.proofs.Common.{◌≡◌, take, length, List}
use Rattle.sqlite.specs.State.{HasCleanDisk}
use Rattle.sqlite.specs.Held.{state}
use Rattle.dnp_objects.specs.declared.limits.TheConstants.{LANES}
use Rattle.dnp_eventbuf.specs.EventBuffer.{EventBuffer}
use Rattle.dnp_store.specs.QueueTables.{Figures}
use Rattle.dnp_store.specs.steps.Pairs.{HoldsFor}
use Rattle.dnp_store.specs.steps.Steps.{all_added}
use Rattle.dnp_store.proofs.Stepping.{AreSteps}
use Rattle.dnp_store.proofs.queue_writing.insert_each.Given as goal

-- the rows so far are in
abbrev pub invariant-loop-x : goal.invariant-loop-x
invariant-loop-x g l =
    let old = state g.S.Store l.fn.tx.conn.now in
    let now = state g.S.Store l.tx.conn.now in
    record {
      step : AreSteps g.S.Store l.fn.tx.conn l.tx.conn;
      added : HasCleanDisk now → (others s : EventBuffer) (figures : List Figures) → length s.lanes ≡ LANES → HoldsFor l.side others old.now s figures
          → HoldsFor l.side others now.now (all_added s (take l.x-index l.rows)) figures;
    }
