use Rattle.std.proofs.Common.{◌≡◌}
use Rattle.dnp_eventbuf.proofs.InPlace.{cut_below}
use Rattle.dnp_eventbuf.proofs.nine_steps.cut_all.Given as goal

abbrev pub invariant-loop-k : goal.invariant-loop-k
invariant-loop-k g l = l.lanes ≡ cut_below l.k l.fn.lanes l.upto
