use Rattle.dnp_nodes.specs.Turns.{stores}
use Rattle.dnp_nodes.proofs.Told.{AreTold}
use Rattle.dnp_nodes.proofs.concentrator_node.ConcentratorNode.pass_down.Given as goal

abbrev pub invariant-loop-number : goal.invariant-loop-number
invariant-loop-number g l =
    let v = stores g.Q.PairLanes.honest g.Q.PairLanes.contents g.B.Book.honest g.B.Book.is_stopped g.B.Book.contents in
    AreTold v l.fn.now l.number l.fn.self l.self
