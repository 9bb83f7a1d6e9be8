-- Each substation goes to those before it, or none is given.
use Rattle.std.proofs.Common.{◌≡◌, ◌∙◌, ap, sym}
use Rattle.dnp_plantext.specs.PlanRanges.{sub_plan_of}
use Rattle.dnp_plantext.proofs.PlanLists.{each_all, each_more, each_none}
use Rattle.dnp_plantext.proofs.plan_text.ranges.sub_plans.Goals as goal

pub loop-fields-preserved : goal.loop-fields-preserved
loop-fields-preserved c =
    rw c.in-Ok.ensures.items
    (each_more sub_plan_of c.args.all.now c.loop-fields.fields-index c.fields-item.result c.loop-fields.plans.items c.in-Some.plan _
    c.loop-fields-test.true (ap sub_plan_of (sym c.fields-item.is) ∙ sym c.in_ok-plan.ensures ∙ c.in-Some.is) c.loop-fields.invariant)

pub returns-in_default : goal.returns-in_default
returns-in_default c =
    each_none sub_plan_of c.args.all.now c.loop-fields.fields-index c.fields-item.result c.loop-fields.plans.items _
    c.loop-fields-test.true (ap sub_plan_of (sym c.fields-item.is) ∙ sym c.in_ok-plan.ensures ∙ c.in_default.is) c.loop-fields.invariant

pub returns : goal.returns
returns c =
    rw c.new.ensures
    (each_all sub_plan_of c.args.all.now c.loop-fields.fields-index c.loop-fields.plans.items _ c.loop-fields-test.false c.loop-fields.invariant)
