use Rattle.std.proofs.Common.{◌≡◌, ◌++◌, drop}
use Rattle.std.specs.Option.{option_map}
use Rattle.dnp_plantext.specs.PlanRanges.{each_of, within}
use Rattle.dnp_plantext.proofs.plan_text.ranges.numbers_within.Given as goal

-- what all of them give is what stands there and what those to come give
abbrev pub invariant-loop-number : goal.invariant-loop-number
invariant-loop-number l =
    each_of (within l.least l.most) l.numbers ≡ option_map (λ more. l.all.items ++ more) (each_of (within l.least l.most) (drop l.number-index l.numbers))
