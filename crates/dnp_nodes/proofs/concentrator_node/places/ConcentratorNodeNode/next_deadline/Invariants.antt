use Rattle.dnp_nodes.specs.ConcentratorNodes.{AreDueFrom}
use Rattle.dnp_nodes.specs.Turns.{stores}
use Rattle.dnp_nodes.proofs.concentrator_node.places.ConcentratorNodeNode.next_deadline.Given as goal

abbrev pub invariant-loop-number : goal.invariant-loop-number
invariant-loop-number g l =
    let v = stores g.Q.PairLanes.honest g.Q.PairLanes.contents g.B.Book.honest g.B.Book.is_stopped g.B.Book.contents in
    AreDueFrom v l.fn.self l.number l.next
