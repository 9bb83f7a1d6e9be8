use Rattle.std.proofs.Common.{◌-◌, ◌≤◌, length, vec_capacity}
use Rattle.dnp_linkframe.proofs.Pieces.{Took}
use Rattle.dnp_linkframe.proofs.stream.take_frames.Given as goal

abbrev pub invariant-loop-done : goal.invariant-loop-done
invariant-loop-done l = record {
  took : Took l.stream l.done l.initial.out.items l.out.items;
  room : vec_capacity l.initial.out ≤ vec_capacity l.out;
}

abbrev pub decreases-loop-done : goal.decreases-loop-done
decreases-loop-done l = length l.stream - l.done
