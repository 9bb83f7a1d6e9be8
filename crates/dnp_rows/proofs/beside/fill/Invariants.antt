use Rattle.std.proofs.Common.{◌≤◌, ◌-◌, length}
use Rattle.dnp_rows.proofs.beside.fill.Given as goal

-- what came has its room
abbrev pub invariant-loop-count : goal.invariant-loop-count
invariant-loop-count g l = l.count ≤ length l.room

abbrev pub decreases-loop-count : goal.decreases-loop-count
decreases-loop-count g l = length l.room - l.count
