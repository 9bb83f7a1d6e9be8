use Rattle.std.proofs.Common.{drop, vec_len, vec_capacity}
use Rattle.dnp_eventbuf.proofs.Puts.{Goes}
use Rattle.dnp_eventbuf.proofs.nine_steps.put_all.Given as goal

abbrev pub invariant-loop-x : goal.invariant-loop-x
invariant-loop-x g l =
    Goes (record { lanes = l.fn.lanes; overflow = l.fn.overflow; last_id = l.fn.last_id }) l.rows l.fn.dropped.items
    (record { lanes = l.lanes; overflow = l.overflow; last_id = l.last_id }) (drop l.x-index l.rows) l.dropped.items (vec_len l.dropped) (vec_capacity l.dropped)
