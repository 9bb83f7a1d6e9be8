use Rattle.std.proofs.Common.{◌≡◌, drop}
use Rattle.toml.specs.View.{view}
use Rattle.dnp_plantext.specs.PlanReasons.{first_fault}
use Rattle.dnp_plantext.proofs.plan_text.field_reason.first_fault.Given as goal

-- what is first of all keys is first of those to come
abbrev pub invariant-loop-key : goal.invariant-loop-key
invariant-loop-key l = first_fault l.substation (view l.table) l.keys ≡ first_fault l.substation (view l.table) (drop l.key-index l.keys)
