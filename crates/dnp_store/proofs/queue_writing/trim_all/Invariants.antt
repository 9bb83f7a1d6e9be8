use Rattle.std.proofs.Common.{Bool}
use Rattle.sqlite.specs.State.{HasCleanDisk}
use Rattle.sqlite.specs.Held.{state}
use Rattle.dnp_eventbuf.specs.EventBuffer.{EventBuffer}
use Rattle.dnp_store.specs.steps.Steps.{IsTrimmed}
use Rattle.dnp_store.proofs.Stepping.{AreSteps}
use Rattle.dnp_store.proofs.queue_writing.trim_all.Given as goal

-- the lanes so far have dropped what they had to
abbrev pub invariant-loop-number : goal.invariant-loop-number
invariant-loop-number g l =
    let old = state g.S.Store l.fn.tx.conn.now in
    let now = state g.S.Store l.tx.conn.now in
    record {
      step : AreSteps g.S.Store l.fn.tx.conn l.tx.conn;
      trimmed : HasCleanDisk now → (others : EventBuffer) (raised : Bool) → IsTrimmed l.side others old.now l.lanes l.rows raised 0
          → IsTrimmed l.side others now.now l.lanes l.rows raised l.number;
    }
