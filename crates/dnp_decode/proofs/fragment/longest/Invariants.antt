use Rattle.std.proofs.Common.{◌≡◌, ℕ, ◌≤◌, ◌<◌, length, take, Ok}
use Rattle.dnp_decode.specs.FragmentLines.{Said, said_at}
use Rattle.dnp_decode.proofs.fragment.longest.Given as goal

abbrev pub invariant-loop-end : goal.invariant-loop-end
invariant-loop-end l = record {
  within : l.end ≤ length l.octets;
  none : (m : ℕ) → l.end ≤ m → m < length l.octets → (other : Said) → said_at (take m l.octets) ≡ Ok other → ⊥;
}

abbrev pub decreases-loop-end : goal.decreases-loop-end
decreases-loop-end l = l.end
