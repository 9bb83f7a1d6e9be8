use Rattle.std.proofs.Common.{◌≡◌, drop}
use Rattle.toml.specs.View.{array_view, items_view}
use Rattle.dnp_plantext.specs.PlanReasons.{subs_fault}
use Rattle.dnp_plantext.proofs.plan_text.field_reason.subs_fault.Given as goal

-- what is first of all substations is first of those to come
abbrev pub invariant-loop-number : goal.invariant-loop-number
invariant-loop-number l = subs_fault 0 (array_view l.fn.items) ≡ subs_fault l.number (items_view (drop l.number l.fn.items.items))
