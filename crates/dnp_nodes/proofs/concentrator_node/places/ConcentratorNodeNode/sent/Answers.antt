use Rattle.std.proofs.Common.{arith, refl, subst, sym}
use Rattle.dnp_nodes.specs.ConcentratorNodes.{Sends, concentrator_in}
use Rattle.dnp_nodes.specs.Turns.{stores}
use Rattle.dnp_nodes.proofs.Turns.{way_hands_below, way_still, way_then}
use Rattle.dnp_nodes.proofs.concentrator_node.places.ConcentratorNodeNode.sent.Goals as goal

pub returns-in-Below-clause-call : goal.returns-in-Below-clause-call
returns-in-Below-clause-call g c =
    let v = stores g.Q.PairLanes.honest g.Q.PairLanes.contents g.B.Book.honest g.B.Book.is_stopped g.B.Book.contents in
    subst (λ slot. Sends v slot c.args.now c.args.count c.args.self.now c.pass_up.new.self) (sym c.in-Below.is)
    (c.sent_below.new.self, c.sent_below.ensures.call, c.pass_up.ensures.passes)

pub returns-in-Below-clause-way : goal.returns-in-Below-clause-way
returns-in-Below-clause-way g c =
    let v = stores g.Q.PairLanes.honest g.Q.PairLanes.contents g.B.Book.honest g.B.Book.is_stopped g.B.Book.contents in
    way_then v (concentrator_in c.args.self.now) (concentrator_in c.sent_below.new.self) (concentrator_in c.pass_up.new.self)
    (way_hands_below v c.in-Below.number c.args.now c.args.count c.args.self.now c.sent_below.new.self c.sent_below.ensures.held c.sent_below.ensures.call) c.pass_up.ensures.way

pub returns-then-centre-lt-CENTRES-clause-call : goal.returns-then-centre-lt-CENTRES-clause-call
returns-then-centre-lt-CENTRES-clause-call g c =
    let v = stores g.Q.PairLanes.honest g.Q.PairLanes.contents g.B.Book.honest g.B.Book.is_stopped g.B.Book.contents in
    subst (λ slot. Sends v slot c.args.now c.args.count c.args.self.now c.give_to_above.new.self) (sym c.in-Above.is)
    ((λ low. c.give_to_above.ensures.call), (λ high. absurd (omega (arith, high, c.if-centre-lt-CENTRES.true))))

pub returns-else-centre-lt-CENTRES-clause-call : goal.returns-else-centre-lt-CENTRES-clause-call
returns-else-centre-lt-CENTRES-clause-call g c =
    let v = stores g.Q.PairLanes.honest g.Q.PairLanes.contents g.B.Book.honest g.B.Book.is_stopped g.B.Book.contents in
    subst (λ slot. Sends v slot c.args.now c.args.count c.args.self.now c.args.self.now) (sym c.in-Above.is)
    ((λ low. absurd (omega (arith, low, c.if-centre-lt-CENTRES.false))), (λ high. refl))

pub returns-else-centre-lt-CENTRES-clause-way : goal.returns-else-centre-lt-CENTRES-clause-way
returns-else-centre-lt-CENTRES-clause-way g c =
    let v = stores g.Q.PairLanes.honest g.Q.PairLanes.contents g.B.Book.honest g.B.Book.is_stopped g.B.Book.contents in
    way_still v (concentrator_in c.args.self.now) (concentrator_in c.args.self.now) refl
