use Rattle.std.proofs.Common.{◌≡◌, ◌<◌, ◌++◌, None, drop}
use Rattle.std.specs.Prelude.{IfSome}
use Rattle.dnp_captures.specs.Hexadecimal.{octets_after}
use Rattle.dnp_captures.proofs.hexadecimal.push_octets.Given as goal

-- the octets so far, and those of the rest of the line
abbrev pub invariant-loop-character : goal.invariant-loop-character
invariant-loop-character l = record {
  small : IfSome l.high (λ digit. digit < 16);
  all : l.octets.items ++ octets_after l.high (drop l.character-index l.line) ≡ l.fn.octets.items ++ octets_after None l.line;
}
