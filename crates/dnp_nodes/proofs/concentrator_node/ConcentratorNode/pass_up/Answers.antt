use Rattle.std.proofs.Common.{◌≡◌, refl, subst, sym, ◌∙◌}
use Rattle.dnp_nodes.specs.ConcentratorNodes.{TicksBothIf, concentrator_in}
use Rattle.dnp_nodes.specs.Turns.{stores}
use Rattle.dnp_nodes.proofs.Turns.{way_still, way_then, way_ticks_above}
use Rattle.dnp_nodes.proofs.concentrator_node.ConcentratorNode.pass_up.Goals as goal

pub returns-then-has_stored-clause-passes : goal.returns-then-has_stored-clause-passes
returns-then-has_stored-clause-passes g c =
    let v = stores g.Q.PairLanes.honest g.Q.PairLanes.contents g.B.Book.honest g.B.Book.is_stopped g.B.Book.contents in
    record {
      asked = c.has_stored.new.self;
      forgotten = c.has_stored.ensures.forgotten;
      ticks = subst (λ b. TicksBothIf b v c.args.now c.has_stored.new.self c.tick_above-then-has_stored.new.self) (sym c.if-has_stored.true ∙ c.has_stored.ensures.stored)
          (c.tick_above.new.self, c.tick_above.ensures.call, c.tick_above-then-has_stored.ensures.call);
    }

pub returns-then-has_stored-clause-way : goal.returns-then-has_stored-clause-way
returns-then-has_stored-clause-way g c =
    let v = stores g.Q.PairLanes.honest g.Q.PairLanes.contents g.B.Book.honest g.B.Book.is_stopped g.B.Book.contents in
    way_then v (concentrator_in c.args.self.now) (concentrator_in c.has_stored.new.self) (concentrator_in c.tick_above-then-has_stored.new.self)
    (way_still v (concentrator_in c.args.self.now) (concentrator_in c.has_stored.new.self) c.has_stored.ensures.forgotten.same)
    (way_then v (concentrator_in c.has_stored.new.self) (concentrator_in c.tick_above.new.self) (concentrator_in c.tick_above-then-has_stored.new.self)
    (way_ticks_above v 0 c.args.now c.has_stored.new.self c.tick_above.new.self c.tick_above.ensures.beside c.tick_above.ensures.call)
    (way_ticks_above v 1 c.args.now c.tick_above.new.self c.tick_above-then-has_stored.new.self c.tick_above-then-has_stored.ensures.beside c.tick_above-then-has_stored.ensures.call))

pub returns-else-has_stored-clause-passes : goal.returns-else-has_stored-clause-passes
returns-else-has_stored-clause-passes g c =
    let v = stores g.Q.PairLanes.honest g.Q.PairLanes.contents g.B.Book.honest g.B.Book.is_stopped g.B.Book.contents in
    record {
      asked = c.has_stored.new.self;
      forgotten = c.has_stored.ensures.forgotten;
      ticks = subst (λ b. TicksBothIf b v c.args.now c.has_stored.new.self c.has_stored.new.self) (sym c.if-has_stored.false ∙ c.has_stored.ensures.stored) refl;
    }

pub returns-else-has_stored-clause-way : goal.returns-else-has_stored-clause-way
returns-else-has_stored-clause-way g c =
    let v = stores g.Q.PairLanes.honest g.Q.PairLanes.contents g.B.Book.honest g.B.Book.is_stopped g.B.Book.contents in
    way_still v (concentrator_in c.args.self.now) (concentrator_in c.has_stored.new.self) c.has_stored.ensures.forgotten.same
