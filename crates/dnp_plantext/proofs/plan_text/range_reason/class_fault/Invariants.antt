use Rattle.std.proofs.Common.{◌≡◌, drop}
use Rattle.dnp_plantext.specs.PlanReasons.{class_fault}
use Rattle.dnp_plantext.proofs.plan_text.range_reason.class_fault.Given as goal

-- what is first of all classes is first of those to come
abbrev pub invariant-loop-item : goal.invariant-loop-item
invariant-loop-item l = class_fault l.substation l.key 0 l.classes ≡ class_fault l.substation l.key l.item (drop l.item l.classes)
