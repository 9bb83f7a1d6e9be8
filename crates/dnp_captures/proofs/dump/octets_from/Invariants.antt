use Rattle.std.proofs.Common.{◌≡◌, ◌≤◌, false, length, drop}
use Rattle.dnp_captures.specs.Hexadecimal.{octets_from}
use Rattle.dnp_captures.proofs.dump.octets_from.Given as goal

-- what the rest of the line says, after the digits before it
abbrev pub invariant-loop-place : goal.invariant-loop-place
invariant-loop-place l = (l.place ≤ length l.line) × (octets_from l.place l.zero (drop l.place l.line) ≡ octets_from 0 false l.line)
