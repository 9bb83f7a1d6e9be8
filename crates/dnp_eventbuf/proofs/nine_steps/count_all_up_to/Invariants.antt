-- what was counted and what is left make the whole
use Rattle.std.proofs.Common.{◌≡◌, ◌+◌, ◌*◌, ◌^◌, ◌≤◌, drop, length}
use Rattle.dnp_eventbuf.specs.EventBuffer.{lanes_up_to}
use Rattle.dnp_eventbuf.proofs.nine_steps.count_all_up_to.Given as goal

abbrev pub invariant-loop-k : goal.invariant-loop-k
invariant-loop-k g l = record {
  whole : l.count + length (lanes_up_to (drop l.k l.lanes) (drop l.k l.upto)) ≡ length (lanes_up_to l.lanes l.upto);
  few : l.count ≤ l.k * 2 ^ 32;
}
