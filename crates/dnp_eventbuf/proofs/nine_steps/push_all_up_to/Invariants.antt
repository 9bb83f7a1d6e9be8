-- what was added and what is left make the whole, and there is room for the rest
use Rattle.std.proofs.Common.{◌≡◌, ◌+◌, ◌≤◌, ◌++◌, drop, length, vec_capacity, vec_len}
use Rattle.dnp_eventbuf.specs.EventBuffer.{lanes_up_to}
use Rattle.dnp_eventbuf.proofs.nine_steps.push_all_up_to.Given as goal

abbrev pub invariant-loop-k : goal.invariant-loop-k
invariant-loop-k g l = record {
  whole : l.out.items ++ lanes_up_to (drop l.k l.lanes) (drop l.k l.upto) ≡ l.fn.out.items ++ lanes_up_to l.lanes l.upto;
  room : vec_len l.out + length (lanes_up_to (drop l.k l.lanes) (drop l.k l.upto)) ≤ vec_capacity l.out;
}
