use Rattle.std.proofs.Common.{◌≡◌}
use Rattle.dnp_nodes.proofs.drops.lost_in.Given as goal

abbrev pub invariant-loop-number : goal.invariant-loop-number
invariant-loop-number g l = l.queue ≡ l.fn.queue
