use Rattle.std.proofs.Common.{◌≡◌, drop}
use Rattle.dnp_plantext.specs.PlanReasons.{subs_range_fault}
use Rattle.dnp_plantext.proofs.plan_text.range_reason.subs_range_fault.Given as goal

-- what is first of all substations is first of those to come
abbrev pub invariant-loop-number : goal.invariant-loop-number
invariant-loop-number l = subs_range_fault 0 l.all ≡ subs_range_fault l.number (drop l.number l.all)
