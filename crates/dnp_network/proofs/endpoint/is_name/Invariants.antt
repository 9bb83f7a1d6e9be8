use Rattle.std.proofs.Common.{◌≡◌, drop}
use Rattle.dnp_network.specs.Endpoints.{all_are, is_named}
use Rattle.dnp_network.proofs.endpoint.is_name.Given as goal

-- what all octets are those to come are
abbrev pub invariant-loop-octet : goal.invariant-loop-octet
invariant-loop-octet l = all_are is_named l.text ≡ all_are is_named (drop l.octet-index l.text)
