use Rattle.std.proofs.Common.{◌≡◌, drop, not, ◌==◌}
use Rattle.dnp_network.specs.Endpoints.{all_are}
use Rattle.dnp_network.proofs.endpoint.is_without_colon.Given as goal

-- what all octets are those to come are
abbrev pub invariant-loop-octet : goal.invariant-loop-octet
invariant-loop-octet l =
    all_are (λ octet. not (octet == 58)) l.text ≡ all_are (λ octet. not (octet == 58)) (drop l.octet-index l.text)
