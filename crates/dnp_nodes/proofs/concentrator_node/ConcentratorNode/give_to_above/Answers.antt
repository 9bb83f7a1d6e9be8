use Rattle.std.proofs.Common.{refl, subst, sym}
use Rattle.dnp_nodes.specs.ConcentratorNodes.{PassesDownIf, concentrator_in}
use Rattle.dnp_nodes.specs.Turns.{stores}
use Rattle.dnp_nodes.proofs.Turns.{way_hands_above, way_then}
use Rattle.dnp_nodes.proofs.concentrator_node.ConcentratorNode.give_to_above.Goals as goal

pub returns-then-sent_above-clause-call : goal.returns-then-sent_above-clause-call
returns-then-sent_above-clause-call g c =
    let v = stores g.Q.PairLanes.honest g.Q.PairLanes.contents g.B.Book.honest g.B.Book.is_stopped g.B.Book.contents in (
      c.sent_above.result,
      c.sent_above.new.self,
      c.sent_above.ensures.call,
      subst (λ b. PassesDownIf b v c.args.now c.sent_above.new.self c.pass_down.new.self) (sym c.if-sent_above.true) c.pass_down.ensures.passes,
    )

pub returns-then-sent_above-clause-way : goal.returns-then-sent_above-clause-way
returns-then-sent_above-clause-way g c =
    let v = stores g.Q.PairLanes.honest g.Q.PairLanes.contents g.B.Book.honest g.B.Book.is_stopped g.B.Book.contents in
    way_then v (concentrator_in c.args.self.now) (concentrator_in c.sent_above.new.self) (concentrator_in c.pass_down.new.self)
    (way_hands_above v c.args.centre c.args.now c.args.count c.sent_above.result c.args.self.now c.sent_above.new.self c.sent_above.ensures.beside c.sent_above.ensures.call)
    c.pass_down.ensures.way

pub returns-else-sent_above-clause-call : goal.returns-else-sent_above-clause-call
returns-else-sent_above-clause-call g c =
    let v = stores g.Q.PairLanes.honest g.Q.PairLanes.contents g.B.Book.honest g.B.Book.is_stopped g.B.Book.contents in (
      c.sent_above.result,
      c.sent_above.new.self,
      c.sent_above.ensures.call,
      subst (λ b. PassesDownIf b v c.args.now c.sent_above.new.self c.sent_above.new.self) (sym c.if-sent_above.false) refl,
    )

pub returns-else-sent_above-clause-way : goal.returns-else-sent_above-clause-way
returns-else-sent_above-clause-way g c =
    let v = stores g.Q.PairLanes.honest g.Q.PairLanes.contents g.B.Book.honest g.B.Book.is_stopped g.B.Book.contents in
    way_hands_above v c.args.centre c.args.now c.args.count c.sent_above.result c.args.self.now c.sent_above.new.self c.sent_above.ensures.beside c.sent_above.ensures.call
