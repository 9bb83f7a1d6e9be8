use Rattle.std.proofs.Common.{◌≡◌, ◌≤◌, drop}
use Rattle.dnp_network.specs.declared.endpoint.TheConstants.{MAX_PORT}
use Rattle.dnp_network.specs.Endpoints.{port_from}
use Rattle.dnp_network.proofs.endpoint.number_from.Given as goal

-- what all digits say is what those to come say behind those before them
abbrev pub invariant-loop-octet : goal.invariant-loop-octet
invariant-loop-octet l = record {
  within : l.value ≤ MAX_PORT;
  same : port_from 0 l.digits ≡ port_from l.value (drop l.octet-index l.digits);
}
