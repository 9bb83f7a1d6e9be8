use Rattle.std.proofs.Common.{arith, refl, subst, sym}
use Rattle.dnp_nodes.specs.ConcentratorNodes.{Receives, concentrator_in}
use Rattle.dnp_nodes.specs.Turns.{stores}
use Rattle.dnp_nodes.proofs.Turns.{way_feeds_below, way_still, way_then}
use Rattle.dnp_nodes.proofs.concentrator_node.places.ConcentratorNodeNode.received.Goals as goal

pub returns-in-Below-clause-call : goal.returns-in-Below-clause-call
returns-in-Below-clause-call g c =
    let v = stores g.Q.PairLanes.honest g.Q.PairLanes.contents g.B.Book.honest g.B.Book.is_stopped g.B.Book.contents in
    subst (λ slot. Receives v slot c.args.now c.args.octets.now c.args.self.now c.pass_up.new.self) (sym c.in-Below.is)
    (c.received_below.new.self, c.received_below.ensures.call, c.pass_up.ensures.passes)

pub returns-in-Below-clause-way : goal.returns-in-Below-clause-way
returns-in-Below-clause-way g c =
    let v = stores g.Q.PairLanes.honest g.Q.PairLanes.contents g.B.Book.honest g.B.Book.is_stopped g.B.Book.contents in
    way_then v (concentrator_in c.args.self.now) (concentrator_in c.received_below.new.self) (concentrator_in c.pass_up.new.self)
    (way_feeds_below v c.in-Below.number c.args.now c.args.octets.now c.args.self.now c.received_below.new.self c.received_below.ensures.held c.received_below.ensures.call) c.pass_up.ensures.way

pub returns-then-centre-lt-CENTRES-clause-call : goal.returns-then-centre-lt-CENTRES-clause-call
returns-then-centre-lt-CENTRES-clause-call g c =
    let v = stores g.Q.PairLanes.honest g.Q.PairLanes.contents g.B.Book.honest g.B.Book.is_stopped g.B.Book.contents in
    subst (λ slot. Receives v slot c.args.now c.args.octets.now c.args.self.now c.take_from_above.new.self) (sym c.in-Above.is)
    ((λ low. c.take_from_above.ensures.call), (λ high. absurd (omega (arith, high, c.if-centre-lt-CENTRES.true))))

pub returns-else-centre-lt-CENTRES-clause-call : goal.returns-else-centre-lt-CENTRES-clause-call
returns-else-centre-lt-CENTRES-clause-call g c =
    let v = stores g.Q.PairLanes.honest g.Q.PairLanes.contents g.B.Book.honest g.B.Book.is_stopped g.B.Book.contents in
    subst (λ slot. Receives v slot c.args.now c.args.octets.now c.args.self.now c.args.self.now) (sym c.in-Above.is)
    ((λ low. absurd (omega (arith, low, c.if-centre-lt-CENTRES.false))), (λ high. refl))

pub returns-else-centre-lt-CENTRES-clause-way : goal.returns-else-centre-lt-CENTRES-clause-way
returns-else-centre-lt-CENTRES-clause-way g c =
    let v = stores g.Q.PairLanes.honest g.Q.PairLanes.contents g.B.Book.honest g.B.Book.is_stopped g.B.Book.contents in
    way_still v (concentrator_in c.args.self.now) (concentrator_in c.args.self.now) refl
