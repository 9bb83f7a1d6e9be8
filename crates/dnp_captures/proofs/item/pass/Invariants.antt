use Rattle.std.proofs.Common.{◌≡◌, ◌≤◌, ◌-◌, ℕ, length, drop}
use Rattle.dnp_captures.specs.Items.{brought_by}
use Rattle.dnp_captures.proofs.item.pass.Given as goal

-- the marks that are passed change nothing for more octets
abbrev pub invariant-marks : goal.invariant-marks
invariant-marks l = record {
  within : l.index ≤ length l.marks;
  onward : (n : ℕ) → l.octets ≤ n → brought_by l.last n (drop l.index l.marks) ≡ brought_by l.at n (drop l.passed l.marks);
}

abbrev pub decreases-marks : goal.decreases-marks
decreases-marks l = length l.marks - l.index
