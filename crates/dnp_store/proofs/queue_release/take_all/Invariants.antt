use Rattle.std.proofs.Common.{List}
use Rattle.sqlite.specs.State.{HasCleanDisk}
use Rattle.sqlite.specs.Held.{state}
use Rattle.dnp_eventbuf.specs.EventBuffer.{EventBuffer}
use Rattle.dnp_store.specs.QueueTables.{Figures}
use Rattle.dnp_store.specs.steps.Pairs.{HoldsFor}
use Rattle.dnp_store.specs.steps.Steps.{left, mixed}
use Rattle.dnp_store.proofs.Stepping.{AreSteps}
use Rattle.dnp_store.proofs.queue_release.take_all.Given as goal

-- the lanes so far have lost their rows
abbrev pub invariant-loop-number : goal.invariant-loop-number
invariant-loop-number g l =
    let old = state g.S.Store l.fn.tx.conn.now in
    let now = state g.S.Store l.tx.conn.now in
    record {
      step : AreSteps g.S.Store l.fn.tx.conn l.tx.conn;
      taken : HasCleanDisk now → (others : EventBuffer) (figures : List Figures) → HoldsFor l.side others old.now l.lanes figures
          → HoldsFor l.side others now.now (mixed l.number l.lanes (left l.lanes l.upto)) figures;
    }
