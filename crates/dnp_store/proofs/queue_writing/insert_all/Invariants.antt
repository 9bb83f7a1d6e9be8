use Rattle.std.proofs.Common.{◌≡◌, ◌++◌, length, List}
use Rattle.std.specs.List.{AllByRecursion}
use Rattle.sqlite.specs.State.{HasCleanDisk}
use Rattle.sqlite.specs.Held.{state}
use Rattle.dnp_objects.specs.declared.limits.TheConstants.{LANES}
use Rattle.dnp_objects.specs.declared.lane.LaneRow.{LaneRow}
use Rattle.dnp_eventbuf.specs.FitsLane.{FitsLane}
use Rattle.dnp_eventbuf.specs.EventBuffer.{EventBuffer}
use Rattle.dnp_store.specs.QueueTables.{Figures}
use Rattle.dnp_store.specs.steps.Pairs.{HoldsFor}
use Rattle.dnp_store.specs.steps.Steps.{all_added}
use Rattle.dnp_store.proofs.Stepping.{AreSteps}
use Rattle.dnp_store.proofs.queue_writing.insert_all.Given as goal

-- some rows are in, and the others are still to come
abbrev pub invariant-loop-block : goal.invariant-loop-block
invariant-loop-block g l =
    let old = state g.S.Store l.fn.tx.conn.now in
    let now = state g.S.Store l.tx.conn.now in
    let rest = l.block-iterator.rest.now in
    record {
      done : List LaneRow;
      parts : l.rows ≡ done ++ rest;
      carried : AllByRecursion FitsLane rest;
      step : AreSteps g.S.Store l.fn.tx.conn l.tx.conn;
      added : HasCleanDisk now → (others s : EventBuffer) (figures : List Figures) → length s.lanes ≡ LANES → HoldsFor l.side others old.now s figures
          → HoldsFor l.side others now.now (all_added s done) figures;
    }
