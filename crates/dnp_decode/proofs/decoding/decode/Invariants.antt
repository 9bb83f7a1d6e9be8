use Rattle.std.proofs.Common.{◌-◌, length}
use Rattle.dnp_decode.specs.steps.Stepped.{SoFar}
use Rattle.dnp_decode.proofs.decoding.decode.Given as goal

abbrev pub invariant-fronts : goal.invariant-fronts
invariant-fronts l = SoFar l.stream l.done l.lines.items l.ports

abbrev pub decreases-fronts : goal.decreases-fronts
decreases-fronts l = length l.stream - l.done
