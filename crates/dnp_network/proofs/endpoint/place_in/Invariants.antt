use Rattle.std.proofs.Common.{◌≡◌, drop}
use Rattle.dnp_network.specs.Endpoints.{place_from}
use Rattle.dnp_network.proofs.endpoint.place_in.Given as goal

-- where the first of all octets stands the first of those to come does
abbrev pub invariant-loop-at : goal.invariant-loop-at
invariant-loop-at l = place_from l.mark 0 l.octets ≡ place_from l.mark l.at (drop l.at l.octets)
