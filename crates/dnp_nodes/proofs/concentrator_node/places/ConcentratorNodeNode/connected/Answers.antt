use Rattle.std.proofs.Common.{arith, refl, subst, sym}
use Rattle.dnp_nodes.specs.ConcentratorNodes.{Connects, concentrator_in}
use Rattle.dnp_nodes.specs.Turns.{stores}
use Rattle.dnp_nodes.proofs.Turns.{way_closes_above, way_opens_above, way_opens_below, way_still, way_then}
use Rattle.dnp_nodes.proofs.concentrator_node.places.ConcentratorNodeNode.connected.Goals as goal

pub returns-in-Below-clause-way : goal.returns-in-Below-clause-way
returns-in-Below-clause-way g c =
    let v = stores g.Q.PairLanes.honest g.Q.PairLanes.contents g.B.Book.honest g.B.Book.is_stopped g.B.Book.contents in
    way_opens_below v c.in-Below.number c.args.now c.args.self.now c.connected_below.new.self c.connected_below.ensures.held c.connected_below.ensures.call

pub returns-then-centre-lt-CENTRES-clause-call : goal.returns-then-centre-lt-CENTRES-clause-call
returns-then-centre-lt-CENTRES-clause-call g c =
    let v = stores g.Q.PairLanes.honest g.Q.PairLanes.contents g.B.Book.honest g.B.Book.is_stopped g.B.Book.contents in
    subst (λ slot. Connects v slot c.args.now c.args.self.now c.connected_above.new.self) (sym c.in-Above.is)
    ((λ low. (c.closed_above.new.self, c.closed_above.ensures.call, c.connected_above.ensures.call)), (λ high. absurd (omega (arith, high, c.if-centre-lt-CENTRES.true))))

pub returns-then-centre-lt-CENTRES-clause-way : goal.returns-then-centre-lt-CENTRES-clause-way
returns-then-centre-lt-CENTRES-clause-way g c =
    let v = stores g.Q.PairLanes.honest g.Q.PairLanes.contents g.B.Book.honest g.B.Book.is_stopped g.B.Book.contents in
    way_then v (concentrator_in c.args.self.now) (concentrator_in c.closed_above.new.self) (concentrator_in c.connected_above.new.self)
    (way_closes_above v c.in-Above.centre c.args.self.now c.closed_above.new.self c.closed_above.ensures.beside c.closed_above.ensures.call)
    (way_opens_above v c.in-Above.centre c.args.now c.closed_above.new.self c.connected_above.new.self c.connected_above.ensures.beside c.connected_above.ensures.call)

pub returns-else-centre-lt-CENTRES-clause-call : goal.returns-else-centre-lt-CENTRES-clause-call
returns-else-centre-lt-CENTRES-clause-call g c =
    let v = stores g.Q.PairLanes.honest g.Q.PairLanes.contents g.B.Book.honest g.B.Book.is_stopped g.B.Book.contents in
    subst (λ slot. Connects v slot c.args.now c.args.self.now c.args.self.now) (sym c.in-Above.is)
    ((λ low. absurd (omega (arith, low, c.if-centre-lt-CENTRES.false))), (λ high. refl))

pub returns-else-centre-lt-CENTRES-clause-way : goal.returns-else-centre-lt-CENTRES-clause-way
returns-else-centre-lt-CENTRES-clause-way g c =
    let v = stores g.Q.PairLanes.honest g.Q.PairLanes.contents g.B.Book.honest g.B.Book.is_stopped g.B.Book.contents in
    way_still v (concentrator_in c.args.self.now) (concentrator_in c.args.self.now) refl

pub returns-in-Below-clause-call : goal.returns-in-Below-clause-call
returns-in-Below-clause-call g c =
    let v = stores g.Q.PairLanes.honest g.Q.PairLanes.contents g.B.Book.honest g.B.Book.is_stopped g.B.Book.contents in
    subst (λ slot. Connects v slot c.args.now c.args.self.now c.connected_below.new.self) (sym c.in-Below.is) c.connected_below.ensures.call
