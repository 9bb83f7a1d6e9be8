use Rattle.std.proofs.Common.{◌≡◌, drop}
use Rattle.dnp_plantext.specs.PlanReasons.{shared_fault}
use Rattle.dnp_plantext.proofs.plan_text.index_reason.shared_fault.Given as goal

-- what is first of all substations is first of those to come
abbrev pub invariant-loop-other : goal.invariant-loop-other
invariant-loop-other l =
    shared_fault l.number l.kind l.span 0 l.all ≡ shared_fault l.number l.kind l.span l.other (drop l.other l.all)
