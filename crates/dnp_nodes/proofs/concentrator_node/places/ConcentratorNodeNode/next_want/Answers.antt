use Rattle.std.proofs.Common.{arith, sym, ◌∙◌}
use Rattle.dnp_nodes.proofs.Wants.{asked_none, asked_one, next_above, next_below}
use Rattle.dnp_nodes.proofs.concentrator_node.places.ConcentratorNodeNode.next_want.Goals as goal

pub loop-number-init : goal.loop-number-init
loop-number-init g c = asked_none c.args.self.now

pub loop-number-preserved : goal.loop-number-preserved
loop-number-preserved g c =
    asked_one c.loop-number.number c.args.self.now c.loop-number.self c.take_below.new.self c.loop-number.invariant (sym c.take_below.ensures.want ∙ c.in_default.is)
    c.take_below.ensures.taken c.take_below.ensures.same

pub returns-clause-next : goal.returns-clause-next
returns-clause-next g c =
    next_above _ _ c.args.self.now c.loop-number.self c.next_want_above.new.self c.loop-number.invariant (omega (arith, c.links-number-end.ensures, c.loop-number-test.false))
    c.next_want_above.ensures.next

pub returns-in-Some-clause-next : goal.returns-in-Some-clause-next
returns-in-Some-clause-next g c =
    next_below c.loop-number.number c.in-Some.want c.args.self.now c.loop-number.self c.take_below.new.self c.loop-number.invariant
    (omega (arith, c.links-number-end.ensures, c.loop-number-test.true)) (sym c.take_below.ensures.want ∙ c.in-Some.is) c.take_below.ensures.taken
