use Rattle.std.proofs.Common.{rules, map}
use Rattle.dnp_concentrator.specs.IndexMap.{ShareIndex}
use Rattle.dnp_concentrator.specs.Plan.{spans_of}
use Rattle.dnp_concentrator.proofs.Refusals.{any_kind}
use Rattle.dnp_concentrator.proofs.index_map.is_overlapping.Goals as goal

pub returns : goal.returns
returns c = any_kind (λ kind. ShareIndex kind (map spans_of c.args.substations.now)) c.any.result c.iter.result.rest.now c.iter.ensures.rest (search rules)
