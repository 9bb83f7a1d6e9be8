use Rattle.std.proofs.Common.{rules, ◌≡◌, ℕ, ◌+◌, ◌<◌, length, true, List, ℤ, pos, Option, get_or, drop, add-one, drop-cons, refl, ◌∙◌, w64, FitsSigned}
use Rattle.std.proofs.lemmas.Int.{to_z-of_z}
use Rattle.dnp_plantext.specs.declared.plan_text.place.PlanKey.{PlanKey}
use Rattle.dnp_plantext.specs.PlanReasons.{item_fault, is_within}
use Rattle.dnp_plantext.proofs.plan_text.range_reason.item_fault.Goals as goal

-- a number in its range is passed over
item_passed : (substation : Option ℕ) (key : PlanKey) (least most n : ℕ) (numbers : List ℤ) (number : ℤ) → n < length numbers →
    true ≡ is_within least most number → number ≡ get_or numbers n (pos 0) →
    item_fault substation key least most n (drop n numbers) ≡ item_fault substation key least most (n + 1) (drop (n + 1) numbers)
item_passed substation key least most n numbers number within is at =
    rw (add-one, drop-cons numbers n (pos 0), ← at, ← is) refl

pub loop-item-preserved : goal.loop-item-preserved
loop-item-preserved c =
    let fits : FitsSigned w64 (get_or c.args.numbers.now c.loop-item.item (pos 0)) = search rules in
    c.loop-item.invariant
    ∙ item_passed c.args.substation c.args.key c.args.least c.args.most c.loop-item.item c.args.numbers.now _ c.loop-item-test.true
    c.if-not-is_within.ensures (to_z-of_z w64 (get_or c.args.numbers.now c.loop-item.item (pos 0)) fits)
