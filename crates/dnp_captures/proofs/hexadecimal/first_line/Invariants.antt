use Rattle.std.proofs.Common.{◌≡◌, ◌≤◌, false, length, take}
use Rattle.std.specs.Prelude.{All, ◌==◌}
use Rattle.dnp_captures.proofs.hexadecimal.first_line.Given as goal

-- there was no line feed yet
abbrev pub invariant-loop-place : goal.invariant-loop-place
invariant-loop-place l = (l.place ≤ length l.text) × All (λ c. (c == 10) ≡ false) (take l.place l.text)
