-- Each number goes to those before it, or none is given.
use Rattle.std.proofs.Common.{rules, ◌≡◌, ◌∙◌, ap, sym, get_or, ℤ, pos, w64, FitsSigned}
use Rattle.std.proofs.lemmas.Int.{to_z-of_z}
use Rattle.dnp_plantext.specs.PlanRanges.{within}
use Rattle.dnp_plantext.proofs.PlanLists.{each_all, each_more, each_none}
use Rattle.dnp_plantext.proofs.plan_text.ranges.numbers_within.Goals as goal

pub loop-number-preserved : goal.loop-number-preserved
loop-number-preserved c =
    let number = get_or c.args.numbers.now c.loop-number.number-index (pos 0) in
    let fits : FitsSigned w64 number = search rules in
    rw c.in_ok-extend_from_slice.ensures.items
    (each_more (within c.args.least c.args.most) c.args.numbers.now c.loop-number.number-index (pos 0) c.loop-number.all.items c.in-Some.number _
    c.loop-number-test.true
    (ap (within c.args.least c.args.most) (sym (to_z-of_z w64 number fits)) ∙ sym c.number_in.ensures ∙ c.in-Some.is) c.loop-number.invariant)

pub returns-in_default : goal.returns-in_default
returns-in_default c =
    let number = get_or c.args.numbers.now c.loop-number.number-index (pos 0) in
    let fits : FitsSigned w64 number = search rules in
    each_none (within c.args.least c.args.most) c.args.numbers.now c.loop-number.number-index (pos 0) c.loop-number.all.items _ c.loop-number-test.true
    (ap (within c.args.least c.args.most) (sym (to_z-of_z w64 number fits)) ∙ sym c.number_in.ensures ∙ c.in_default.is) c.loop-number.invariant

pub returns : goal.returns
returns c =
    each_all (within c.args.least c.args.most) c.args.numbers.now c.loop-number.number-index c.loop-number.all.items _ c.loop-number-test.false
    c.loop-number.invariant
