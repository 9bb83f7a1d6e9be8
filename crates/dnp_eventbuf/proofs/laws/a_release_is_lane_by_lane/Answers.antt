use Rattle.std.proofs.Common.{sym}
use Rattle.dnp_eventbuf.proofs.Soundness.{get_or-lanes_above}
use Rattle.dnp_eventbuf.proofs.laws.a_release_is_lane_by_lane.Goals as goal

pub returns : goal.returns
returns c = λ s upto number long within. get_or-lanes_above s.lanes upto number (sym long) within
