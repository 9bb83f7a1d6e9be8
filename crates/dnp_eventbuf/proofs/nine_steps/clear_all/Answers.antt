use Rattle.std.proofs.Common.{◌≡◌, length, rules, arith}
use Rattle.dnp_objects.specs.declared.limits.TheConstants.{LANES}
use Rattle.dnp_eventbuf.specs.EventBuffer.{emptied}
use Rattle.dnp_eventbuf.proofs.InPlace.{mapped-step}
use Rattle.dnp_eventbuf.proofs.nine_steps.clear_all.Goals as goal

pub loop-lane-preserved : goal.loop-lane-preserved
loop-lane-preserved g c =
    let nine : length c.args.lanes.now ≡ LANES = search rules in
    mapped-step emptied c.args.lanes.now c.loop-lane.lane-items c.loop-lane.lane-index c.clear.new.self c.lane-item.result (omega arith) c.loop-lane.invariant c.clear.ensures
