use Rattle.std.proofs.Common.{refl}
use Rattle.dnp_nodes.specs.ConcentratorNodes.{concentrator_in}
use Rattle.dnp_nodes.specs.Turns.{stores}
use Rattle.dnp_nodes.proofs.Turns.{way_still, way_then}
use Rattle.dnp_nodes.proofs.concentrator_node.places.ConcentratorNodeNode.tick.Goals as goal

pub loop-number-init : goal.loop-number-init
loop-number-init g c =
    let v = stores g.Q.PairLanes.honest g.Q.PairLanes.contents g.B.Book.honest g.B.Book.is_stopped g.B.Book.contents in
    way_still v (concentrator_in c.args.self.now) (concentrator_in c.args.self.now) refl

pub loop-number-preserved : goal.loop-number-preserved
loop-number-preserved g c =
    let v = stores g.Q.PairLanes.honest g.Q.PairLanes.contents g.B.Book.honest g.B.Book.is_stopped g.B.Book.contents in
    way_then v (concentrator_in c.args.self.now) (concentrator_in c.loop-number.self) (concentrator_in c.pass_below.new.self) c.loop-number.invariant c.pass_below.ensures.way

pub returns : goal.returns
returns g c =
    let v = stores g.Q.PairLanes.honest g.Q.PairLanes.contents g.B.Book.honest g.B.Book.is_stopped g.B.Book.contents in
    way_then v (concentrator_in c.args.self.now) (concentrator_in c.loop-number.self) (concentrator_in c.pass_above-2.new.self) c.loop-number.invariant
    (way_then v (concentrator_in c.loop-number.self) (concentrator_in c.pass_above.new.self) (concentrator_in c.pass_above-2.new.self)
    c.pass_above.ensures.way c.pass_above-2.ensures.way)
