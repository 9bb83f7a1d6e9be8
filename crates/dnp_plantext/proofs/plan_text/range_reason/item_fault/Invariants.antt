use Rattle.std.proofs.Common.{◌≡◌, drop}
use Rattle.dnp_plantext.specs.PlanReasons.{item_fault}
use Rattle.dnp_plantext.proofs.plan_text.range_reason.item_fault.Given as goal

-- what is first of all numbers is first of those to come
abbrev pub invariant-loop-item : goal.invariant-loop-item
invariant-loop-item l =
    item_fault l.substation l.key l.least l.most 0 l.numbers
    ≡ item_fault l.substation l.key l.least l.most l.item (drop l.item l.numbers)
