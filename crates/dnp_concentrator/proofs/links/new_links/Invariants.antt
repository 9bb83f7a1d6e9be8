use Rattle.std.specs.Prelude.{◌≡◌, take, map}
use Rattle.dnp_concentrator.specs.Below.{new_link}
use Rattle.dnp_concentrator.proofs.links.new_links.Given as goal

abbrev pub invariant-loop-substation : goal.invariant-loop-substation
invariant-loop-substation l = l.links.items ≡ map (new_link l.plan.times) (take l.substation-index l.substations)
