use Rattle.std.proofs.Common.{refl, subst, sym, ◌∙◌}
use Rattle.dnp_nodes.specs.ConcentratorNodes.{DoesIf, TicksAbove, concentrator_in}
use Rattle.dnp_nodes.specs.Turns.{stores}
use Rattle.dnp_nodes.proofs.Turns.{way_still, way_ticks_above}
use Rattle.dnp_nodes.proofs.concentrator_node.ConcentratorNode.pass_above.Goals as goal

pub returns-then-is_due_above-clause-due : goal.returns-then-is_due_above-clause-due
returns-then-is_due_above-clause-due g c =
    let v = stores g.Q.PairLanes.honest g.Q.PairLanes.contents g.B.Book.honest g.B.Book.is_stopped g.B.Book.contents in
    let due = c.is_due_above.ensures in (
      due.0,
      due.1,
      subst (λ b. DoesIf b (TicksAbove v c.args.centre c.args.now) c.args.self.now c.tick_above.new.self)
          (sym c.if-is_due_above.true ∙ due.2) c.tick_above.ensures.call,
    )

pub returns-then-is_due_above-clause-way : goal.returns-then-is_due_above-clause-way
returns-then-is_due_above-clause-way g c =
    let v = stores g.Q.PairLanes.honest g.Q.PairLanes.contents g.B.Book.honest g.B.Book.is_stopped g.B.Book.contents in
    way_ticks_above v c.args.centre c.args.now c.args.self.now c.tick_above.new.self c.tick_above.ensures.beside c.tick_above.ensures.call

pub returns-else-is_due_above-clause-due : goal.returns-else-is_due_above-clause-due
returns-else-is_due_above-clause-due g c =
    let v = stores g.Q.PairLanes.honest g.Q.PairLanes.contents g.B.Book.honest g.B.Book.is_stopped g.B.Book.contents in
    let due = c.is_due_above.ensures in
    (due.0, due.1, subst (λ b. DoesIf b (TicksAbove v c.args.centre c.args.now) c.args.self.now c.args.self.now) (sym c.if-is_due_above.false ∙ due.2) refl)

pub returns-else-is_due_above-clause-way : goal.returns-else-is_due_above-clause-way
returns-else-is_due_above-clause-way g c =
    let v = stores g.Q.PairLanes.honest g.Q.PairLanes.contents g.B.Book.honest g.B.Book.is_stopped g.B.Book.contents in
    way_still v (concentrator_in c.args.self.now) (concentrator_in c.args.self.now) refl
