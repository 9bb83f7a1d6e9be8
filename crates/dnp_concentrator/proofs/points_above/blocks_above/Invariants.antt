use Rattle.std.specs.Prelude.{◌≡◌, take, map}
use Rattle.dnp_concentrator.specs.PointsAbove.{block_above}
use Rattle.dnp_concentrator.proofs.points_above.blocks_above.Given as goal

abbrev pub invariant-loop-substation : goal.invariant-loop-substation
invariant-loop-substation l = l.blocks.items ≡ map (block_above l.kind) (take l.substation-index l.substations)
