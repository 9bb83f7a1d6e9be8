use Rattle.std.proofs.Common.{◌≤◌}
use Rattle.dnp_loop.proofs.places.turn_all.Given as goal

abbrev pub invariant-loop-index : goal.invariant-loop-index
invariant-loop-index g l = l.fn.before ≤ l.now
