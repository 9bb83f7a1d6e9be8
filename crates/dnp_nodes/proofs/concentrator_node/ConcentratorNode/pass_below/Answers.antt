use Rattle.std.proofs.Common.{refl, subst, sym, ◌∙◌}
use Rattle.dnp_nodes.specs.ConcentratorNodes.{DoesIf, ThenUp, TicksBelow, concentrator_in}
use Rattle.dnp_nodes.specs.Turns.{stores}
use Rattle.dnp_nodes.proofs.Turns.{way_still, way_then, way_ticks_below}
use Rattle.dnp_nodes.proofs.concentrator_node.ConcentratorNode.pass_below.Goals as goal

pub returns-then-is_due_below-clause-due : goal.returns-then-is_due_below-clause-due
returns-then-is_due_below-clause-due g c =
    let v = stores g.Q.PairLanes.honest g.Q.PairLanes.contents g.B.Book.honest g.B.Book.is_stopped g.B.Book.contents in
    let due = c.is_due_below.ensures in (
      due.0,
      due.1,
      subst (λ b. DoesIf b (ThenUp v c.args.number c.args.now (TicksBelow v c.args.number c.args.now)) c.args.self.now c.pass_up.new.self)
          (sym c.if-is_due_below.true ∙ due.2) (c.tick_below.new.self, c.tick_below.ensures.call, c.pass_up.ensures.passes),
    )

pub returns-then-is_due_below-clause-way : goal.returns-then-is_due_below-clause-way
returns-then-is_due_below-clause-way g c =
    let v = stores g.Q.PairLanes.honest g.Q.PairLanes.contents g.B.Book.honest g.B.Book.is_stopped g.B.Book.contents in
    way_then v (concentrator_in c.args.self.now) (concentrator_in c.tick_below.new.self) (concentrator_in c.pass_up.new.self)
    (way_ticks_below v c.args.number c.args.now c.args.self.now c.tick_below.new.self c.tick_below.ensures.held c.tick_below.ensures.call) c.pass_up.ensures.way

pub returns-else-is_due_below-clause-due : goal.returns-else-is_due_below-clause-due
returns-else-is_due_below-clause-due g c =
    let v = stores g.Q.PairLanes.honest g.Q.PairLanes.contents g.B.Book.honest g.B.Book.is_stopped g.B.Book.contents in
    let due = c.is_due_below.ensures in (
      due.0,
      due.1,
      subst (λ b. DoesIf b (ThenUp v c.args.number c.args.now (TicksBelow v c.args.number c.args.now)) c.args.self.now c.args.self.now)
          (sym c.if-is_due_below.false ∙ due.2) refl,
    )

pub returns-else-is_due_below-clause-way : goal.returns-else-is_due_below-clause-way
returns-else-is_due_below-clause-way g c =
    let v = stores g.Q.PairLanes.honest g.Q.PairLanes.contents g.B.Book.honest g.B.Book.is_stopped g.B.Book.contents in
    way_still v (concentrator_in c.args.self.now) (concentrator_in c.args.self.now) refl
