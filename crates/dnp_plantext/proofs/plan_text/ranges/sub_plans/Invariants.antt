use Rattle.std.proofs.Common.{◌≡◌, ◌++◌, drop}
use Rattle.std.specs.Option.{option_map}
use Rattle.dnp_plantext.specs.PlanRanges.{each_of, sub_plan_of}
use Rattle.dnp_plantext.proofs.plan_text.ranges.sub_plans.Given as goal

-- what all of them give is what stands there and what those to come give
abbrev pub invariant-loop-fields : goal.invariant-loop-fields
invariant-loop-fields l =
    each_of (sub_plan_of) l.all ≡ option_map (λ more. l.plans.items ++ more) (each_of (sub_plan_of) (drop l.fields-index l.all))
