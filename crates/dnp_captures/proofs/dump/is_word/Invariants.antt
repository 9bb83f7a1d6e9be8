use Rattle.std.proofs.Common.{◌≡◌, ◌≤◌, length, drop}
use Rattle.dnp_captures.specs.Hexadecimal.{is_word}
use Rattle.dnp_captures.proofs.dump.is_word.Given as goal

-- the rest of the line ends the word as the line does
abbrev pub invariant-loop-place : goal.invariant-loop-place
invariant-loop-place l = (l.place ≤ length l.line) × (is_word l.place (drop l.place l.line) ≡ is_word 0 l.line)
