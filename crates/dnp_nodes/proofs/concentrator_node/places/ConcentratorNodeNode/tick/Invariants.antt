use Rattle.dnp_nodes.specs.ConcentratorNodes.{concentrator_in}
use Rattle.dnp_nodes.specs.Turns.{GoesItsWay, stores}
use Rattle.dnp_nodes.proofs.concentrator_node.places.ConcentratorNodeNode.tick.Given as goal

abbrev pub invariant-loop-number : goal.invariant-loop-number
invariant-loop-number g l =
    let v = stores g.Q.PairLanes.honest g.Q.PairLanes.contents g.B.Book.honest g.B.Book.is_stopped g.B.Book.contents in
    GoesItsWay v (concentrator_in l.fn.self) (concentrator_in l.self)
