use Rattle.std.proofs.Common.{◌≡◌, drop}
use Rattle.dnp_network.specs.Endpoints.{all_are, is_digit}
use Rattle.dnp_network.proofs.points.are_digits.Given as goal

-- what all octets are those to come are
abbrev pub invariant-loop-octet : goal.invariant-loop-octet
invariant-loop-octet l = all_are is_digit l.text ≡ all_are is_digit (drop l.octet-index l.text)
