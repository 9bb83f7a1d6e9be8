use Rattle.dnp_eventbuf.proofs.ByLanes.{same_by_lanes}
use Rattle.dnp_objects.specs.declared.limits.TheConstants.{LANES}
use Rattle.dnp_eventbuf.proofs.link_laws.rows_are_the_same_by_lanes.Goals as goal

pub returns : goal.returns
returns c = same_by_lanes LANES
