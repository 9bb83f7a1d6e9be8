use Rattle.std.proofs.Common.{◌≡◌, ◌++◌, length, map, take, drop}
use Rattle.dnp_world.specs.SystemEvents.{master_gone}
use Rattle.dnp_world.specs.SystemParts.{substation_of}
use Rattle.dnp_world.proofs.substation.hang_up_masters.Given as goal

abbrev pub invariant-loop-substation : goal.invariant-loop-substation
invariant-loop-substation l =
    (length l.substations ≡ length l.initial.substations)
    × (map substation_of l.substations
    ≡ map master_gone (take l.substation-index (map substation_of l.initial.substations)) ++ drop l.substation-index (map substation_of l.initial.substations))
