-- what was added and what is left make the whole
use Rattle.std.proofs.Common.{◌≡◌, ◌≤◌, ◌++◌, drop, length}
use Rattle.dnp_eventbuf.specs.EventBuffer.{lane_rows}
use Rattle.dnp_eventbuf.proofs.nine_steps.push_all.Given as goal

abbrev pub invariant-loop-lane : goal.invariant-loop-lane
invariant-loop-lane g l = record {
  whole : l.out.items ++ lane_rows (drop l.lane-index l.lanes) ≡ l.fn.out.items ++ lane_rows l.lanes;
  grows : length l.fn.out.items ≤ length l.out.items;
}
