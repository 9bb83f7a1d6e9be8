use Rattle.std.proofs.Common.{◌≡◌, drop}
use Rattle.toml.specs.View.{array_view, items_view}
use Rattle.dnp_plantext.specs.PlanReasons.{first_other}
use Rattle.dnp_plantext.proofs.plan_text.field_reason.first_other.Given as goal

-- what is first of all items is first of those to come
abbrev pub invariant-loop-number : goal.invariant-loop-number
invariant-loop-number l =
    first_other l.substation l.key 0 (array_view l.fn.items) ≡ first_other l.substation l.key l.number (items_view (drop l.number l.fn.items.items))
