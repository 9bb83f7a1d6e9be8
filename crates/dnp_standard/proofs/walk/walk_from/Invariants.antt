use Rattle.std.proofs.Common.{◌-◌, length}
use Rattle.dnp_standard.proofs.Walking.{SoFar}
use Rattle.dnp_standard.proofs.walk.walk_from.Given as goal

abbrev pub invariant-headers : goal.invariant-headers
invariant-headers l = SoFar l.carried l.fragment l.begin l.blocks.items l.place

abbrev pub decreases-headers : goal.decreases-headers
decreases-headers l = length l.fragment - l.place
