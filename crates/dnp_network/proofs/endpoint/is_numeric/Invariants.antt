use Rattle.std.proofs.Common.{◌≡◌, drop}
use Rattle.dnp_network.specs.Endpoints.{all_are, is_numeric}
use Rattle.dnp_network.proofs.endpoint.is_numeric.Given as goal

-- what all octets are those to come are
abbrev pub invariant-loop-octet : goal.invariant-loop-octet
invariant-loop-octet l = all_are is_numeric l.text ≡ all_are is_numeric (drop l.octet-index l.text)
