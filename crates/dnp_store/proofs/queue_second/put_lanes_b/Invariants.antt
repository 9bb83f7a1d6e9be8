use Rattle.std.proofs.Common.{[], take, map, List}
use Rattle.sqlite.specs.State.{HasCleanDisk}
use Rattle.sqlite.specs.Held.{state}
use Rattle.sqlite.specs.Term.{Term}
use Rattle.dnp_eventbuf.specs.EventBuffer.{EventBuffer}
use Rattle.dnp_store.specs.steps.Making.{fresh}
use Rattle.dnp_store.specs.steps.Seconds.{HasSecond}
use Rattle.dnp_store.specs.Texts.{lanes_b_insert}
use Rattle.dnp_store.proofs.Adding.{LanesOn}
use Rattle.dnp_store.proofs.Stepping.{AreSteps}
use Rattle.dnp_store.proofs.Stopping.{StopsLanes}
use Rattle.dnp_store.proofs.queue_second.put_lanes_b.Given as goal

-- the lanes so far stand there, with those that are still to come all of them are put in, and a refusal of one of those is one
-- of all of them
abbrev pub invariant-loop-number : goal.invariant-loop-number
invariant-loop-number g l =
    let old = state g.S.Store l.fn.tx.conn.now in
    let now = state g.S.Store l.tx.conn.now in
    record {
      step : AreSteps g.S.Store l.fn.tx.conn l.tx.conn;
      ran : HasCleanDisk now → LanesOn g.S.Store lanes_b_insert l.capacities l.number old.now now.now;
      stops : HasCleanDisk now → StopsLanes g.S.Store lanes_b_insert l.capacities l.number old.now now.now;
      made : HasCleanDisk now → (f q b : List Term) (s : EventBuffer) → HasSecond f q b s [] old.now
          → HasSecond f q b s (map fresh (take l.number l.capacities)) now.now;
    }
