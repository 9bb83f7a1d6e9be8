use Rattle.dnp_nodes.specs.Turns.{above_ways, stores}
use Rattle.dnp_nodes.specs.CalleeCalls as callee
use Rattle.dnp_nodes.proofs.Dropping.{still_beside, still_called}
use Rattle.dnp_streams.specs.streams.Concentrators.{above_hung_up}
use Rattle.dnp_nodes.proofs.concentrator_node.ConcentratorNode.tick_above.Goals as goal

pub returns-clause-call : goal.returns-clause-call
returns-clause-call g c =
    let v = stores g.Q.PairLanes.honest g.Q.PairLanes.contents g.B.Book.honest g.B.Book.is_stopped g.B.Book.contents in
    still_called v c.args.centre (λ honest before s after s'. callee.IsTicked above_ways above_hung_up honest c.args.now before s after s')
    c.args.self.now c.call_above.new.self c.look_at_drops.new.self c.call_above.ensures.call c.look_at_drops.ensures

pub returns-clause-beside : goal.returns-clause-beside
returns-clause-beside g c =
    let v = stores g.Q.PairLanes.honest g.Q.PairLanes.contents g.B.Book.honest g.B.Book.is_stopped g.B.Book.contents in
    still_beside v c.args.centre c.args.self.now c.call_above.new.self c.look_at_drops.new.self c.call_above.ensures.beside c.look_at_drops.ensures
