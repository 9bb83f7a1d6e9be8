-- what was counted and what is left make the whole
use Rattle.std.proofs.Common.{◌≡◌, ◌+◌, ◌≤◌, length, nat_lt}
use Rattle.std.specs.List.{filter}
use Rattle.std.specs.VecDeque.Iter.{deque_iter_rest}
use Rattle.dnp_eventbuf.specs.EventBuffer.{above}
use Rattle.dnp_eventbuf.proofs.plain_lane.PlainLane.is_full_above.Given as goal

abbrev pub invariant-loop-x : goal.invariant-loop-x
invariant-loop-x l = record {
  whole : l.count + length (filter (λ x. nat_lt l.upto x.id) (deque_iter_rest l.x-iterator)) ≡ length (above l.upto l.fn.self).rows;
  most : l.count + length (deque_iter_rest l.x-iterator) ≤ length l.fn.self.rows;
}
