use Rattle.std.proofs.Common.{◌-◌, ◌<◌, ◌≤◌, ℕ, length, drop}
use Rattle.dnp_linkframe.specs.Stream.{NoHeader, IsFront}
use Rattle.dnp_decode.proofs.stream.noise.Given as goal

abbrev pub invariant-loop-count : goal.invariant-loop-count
invariant-loop-count l = record {
  within : l.count ≤ length l.stream;
  each : (k : ℕ) → k < l.count → IsFront (drop k l.stream) NoHeader;
}

abbrev pub decreases-loop-count : goal.decreases-loop-count
decreases-loop-count l = length l.stream - l.count
