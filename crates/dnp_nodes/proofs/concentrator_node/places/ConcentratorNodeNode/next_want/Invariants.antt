use Rattle.dnp_nodes.proofs.Wants.{AreAsked}
use Rattle.dnp_nodes.proofs.concentrator_node.places.ConcentratorNodeNode.next_want.Given as goal

abbrev pub invariant-loop-number : goal.invariant-loop-number
invariant-loop-number g l = AreAsked l.number l.fn.self l.self
