use Rattle.dnp_world.proofs.OneLinkLists.{IsCounting}
use Rattle.dnp_world.proofs.listing.rows_waiting.Given as goal

abbrev pub invariant-loop-number : goal.invariant-loop-number
invariant-loop-number g l = IsCounting g.L.Lanes.honest g.L.Lanes.contents l.fn.lanes l.lanes l.count l.number
