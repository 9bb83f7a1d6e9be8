use Rattle.std.proofs.Common.{◌≡◌, map, take, length}
use Rattle.dnp_objects.specs.declared.limits.TheConstants.{LANES}
use Rattle.dnp_eventbuf.specs.steps.Tallies.{tally_of}
use Rattle.dnp_eventbuf.proofs.nine_steps.tallies.Given as goal

abbrev pub invariant-loop-k : goal.invariant-loop-k
invariant-loop-k g l = record {
  nine : length l.tallies ≡ LANES;
  done : take l.k l.tallies ≡ map tally_of (take l.k l.lanes);
}
