use Rattle.std.proofs.Common.{◌≡◌, ◌++◌, drop}
use Rattle.std.specs.Option.{option_map}
use Rattle.dnp_plantext.specs.PlanRanges.{each_of, within}
use Rattle.dnp_plantext.proofs.plan_text.ranges.classes_in.Given as goal

-- what all of them give is what stands there and what those to come give
abbrev pub invariant-loop-number : goal.invariant-loop-number
invariant-loop-number l =
    each_of (within 0 255) l.numbers ≡ option_map (λ more. l.classes.items ++ more) (each_of (within 0 255) (drop l.number-index l.numbers))
