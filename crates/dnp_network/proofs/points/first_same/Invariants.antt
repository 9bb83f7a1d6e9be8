use Rattle.std.proofs.Common.{◌≡◌, drop}
use Rattle.dnp_network.specs.Points.{first_same}
use Rattle.dnp_network.proofs.points.first_same.Given as goal

-- what is first of all points is first of those to come
abbrev pub invariant-loop-number : goal.invariant-loop-number
invariant-loop-number l = first_same 0 l.point l.points ≡ first_same l.number l.point (drop l.number l.points)
