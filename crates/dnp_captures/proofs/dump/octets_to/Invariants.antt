use Rattle.std.proofs.Common.{◌≡◌, ◌≤◌, ◌-◌, length, drop}
use Rattle.dnp_captures.specs.Hexadecimal.{octets_to}
use Rattle.dnp_captures.proofs.dump.octets_to.Given as goal

-- where the octets of the rest end, after the digits and blanks before it
abbrev pub invariant-octets : goal.invariant-octets
invariant-octets l = record {
  after : l.from ≤ l.place;
  within : l.place ≤ length l.line;
  digits : l.digits ≤ l.place;
  blanks : l.blanks ≤ l.place;
  all : octets_to l.digits l.blanks l.place (drop l.place l.line) ≡ octets_to 0 0 l.from (drop l.from l.line);
}

abbrev pub decreases-octets : goal.decreases-octets
decreases-octets l = length l.line - l.place
