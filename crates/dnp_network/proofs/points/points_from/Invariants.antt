use Rattle.std.proofs.Common.{◌≡◌, drop}
use Rattle.dnp_network.specs.Points.{points_said, points_from}
use Rattle.dnp_network.proofs.points.points_from.Given as goal

-- what all records say is what those to come say behind those before them
abbrev pub invariant-loop-number : goal.invariant-loop-number
invariant-loop-number l = points_said l.counts l.rows ≡ points_from l.counts l.number l.all.items (drop l.number l.rows)
