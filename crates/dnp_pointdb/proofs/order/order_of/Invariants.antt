use Rattle.std.proofs.Common.{map}
use Rattle.dnp_pointdb.specs.steps.Order.{extent_of}
use Rattle.dnp_pointdb.proofs.Orders.{Placed}
use Rattle.dnp_pointdb.proofs.order.order_of.Given as goal

abbrev pub invariant-loop-number : goal.invariant-loop-number
invariant-loop-number l = Placed (map extent_of l.blocks) l.number l.order.items
