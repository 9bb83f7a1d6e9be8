-- what is made and what is still to come make the whole
use Rattle.std.specs.Prelude.{◌≡◌, ◌++◌, drop, map}
use Rattle.dnp_world.specs.FreshSystems.{fresh_substations}
use Rattle.dnp_world.specs.SystemParts.{substation_of}
use Rattle.dnp_world.proofs.new_substations.new_substations.Given as goal

abbrev pub invariant-loop-number : goal.invariant-loop-number
invariant-loop-number l =
    map substation_of l.substations.items ++ fresh_substations l.plan.times l.number (drop l.number l.plans) ≡ fresh_substations l.plan.times 0 l.plans
