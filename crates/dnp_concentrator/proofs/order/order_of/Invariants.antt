use Rattle.dnp_concentrator.proofs.Orders.{IsPlaced}
use Rattle.dnp_concentrator.proofs.order.order_of.Given as goal

abbrev pub invariant-loop-number : goal.invariant-loop-number
invariant-loop-number l = IsPlaced l.kind l.spans l.number l.order.items
