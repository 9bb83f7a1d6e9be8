use Rattle.std.proofs.Common.{[], take, map}
use Rattle.sqlite.specs.State.{HasCleanDisk}
use Rattle.sqlite.specs.Held.{state}
use Rattle.dnp_store.specs.steps.Making.{HasLanes, fresh}
use Rattle.dnp_store.specs.Texts.{lanes_insert}
use Rattle.dnp_store.proofs.Adding.{LanesOn}
use Rattle.dnp_store.proofs.Stepping.{AreSteps}
use Rattle.dnp_store.proofs.Stopping.{StopsLanes}
use Rattle.dnp_store.proofs.queue_tables.put_lanes.Given as goal

-- the lanes so far stand there, with those that are still to come all of them are put in, and a refusal of one of those is one
-- of all of them
abbrev pub invariant-loop-number : goal.invariant-loop-number
invariant-loop-number g l =
    let old = state g.S.Store l.fn.tx.conn.now in
    let now = state g.S.Store l.tx.conn.now in
    record {
      step : AreSteps g.S.Store l.fn.tx.conn l.tx.conn;
      ran : HasCleanDisk now → LanesOn g.S.Store lanes_insert l.capacities l.number old.now now.now;
      stops : HasCleanDisk now → StopsLanes g.S.Store lanes_insert l.capacities l.number old.now now.now;
      made : HasCleanDisk now → HasLanes old.now [] → HasLanes now.now (map fresh (take l.number l.capacities));
    }
