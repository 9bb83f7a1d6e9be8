use Rattle.std.proofs.Common.{◌≡◌}
use Rattle.dnp_eventbuf.specs.EventBuffer.{emptied}
use Rattle.dnp_eventbuf.proofs.InPlace.{mapped}
use Rattle.dnp_eventbuf.proofs.nine_steps.clear_all.Given as goal

abbrev pub invariant-loop-lane : goal.invariant-loop-lane
invariant-loop-lane g l = l.lane-items ≡ mapped emptied l.lane-index l.fn.lanes
