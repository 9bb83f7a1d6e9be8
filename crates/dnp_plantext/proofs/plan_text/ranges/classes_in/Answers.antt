-- Each class goes to those before it, or none is given.
use Rattle.std.proofs.Common.{arith, rules, length, nat_le, true, ◌≡◌, ◌∙◌, ap, sym, get_or, ℤ, pos, w64, FitsSigned}
use Rattle.std.proofs.lemmas.Int.{to_z-of_z}
use Rattle.dnp_pointdb.specs.declared.limits.TheConstants.{MAX_POINTS}
use Rattle.dnp_plantext.specs.PlanRanges.{classes_of, within}
use Rattle.dnp_plantext.proofs.PlanLists.{each_all, each_more, each_none}
use Rattle.dnp_plantext.proofs.plan_text.ranges.classes_in.Goals as goal

pub loop-number-preserved : goal.loop-number-preserved
loop-number-preserved c =
    let number = get_or c.args.numbers.now c.loop-number.number-index (pos 0) in
    let fits : FitsSigned w64 number = search rules in
    rw c.in_ok-extend_from_slice.ensures.items
    (each_more (within 0 255) c.args.numbers.now c.loop-number.number-index (pos 0) c.loop-number.classes.items c.in-Some.class _
    c.loop-number-test.true (ap (within 0 255) (sym (to_z-of_z w64 number fits)) ∙ sym c.class_in.ensures ∙ c.in-Some.is) c.loop-number.invariant)

pub returns-in_default : goal.returns-in_default
unfolding classes_of
returns-in_default c =
    let number = get_or c.args.numbers.now c.loop-number.number-index (pos 0) in
    let fits : FitsSigned w64 number = search rules in
    let few : nat_le (length c.args.numbers.now) MAX_POINTS ≡ true = search (arith, c.if-numbers-gt-MAX_POINTS.false) in
    rw few
    (each_none (within 0 255) c.args.numbers.now c.loop-number.number-index (pos 0) c.loop-number.classes.items _ c.loop-number-test.true
    (ap (within 0 255) (sym (to_z-of_z w64 number fits)) ∙ sym c.class_in.ensures ∙ c.in_default.is) c.loop-number.invariant)

pub returns : goal.returns
unfolding classes_of
returns c =
    let few : nat_le (length c.args.numbers.now) MAX_POINTS ≡ true = search (arith, c.if-numbers-gt-MAX_POINTS.false) in
    rw (c.new.ensures, few)
    (each_all (within 0 255) c.args.numbers.now c.loop-number.number-index c.loop-number.classes.items _ c.loop-number-test.false
    c.loop-number.invariant)
