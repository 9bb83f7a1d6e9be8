use Rattle.std.proofs.Common.{◌≡◌, map, take}
use Rattle.dnp_concentrator.specs.Plan.{spans_of}
use Rattle.dnp_concentrator.proofs.index_map.spans_of_each.Given as goal

abbrev pub invariant-loop-substation : goal.invariant-loop-substation
invariant-loop-substation l = l.spans.items ≡ map spans_of (take l.substation-index l.substations)
