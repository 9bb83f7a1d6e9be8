use Rattle.std.proofs.Common.{rules}
use Rattle.dnp_pointdb.specs.Blocks.{ShareIndex}
use Rattle.dnp_pointdb.specs.Plan.{blocks_of}
use Rattle.dnp_pointdb.proofs.ByKind.{any_kind}
use Rattle.dnp_pointdb.proofs.plan.has_overlap.Goals as goal

pub returns : goal.returns
returns c = any_kind (λ kind. ShareIndex (blocks_of c.args.blocks.now kind)) c.any.result c.iter.result.rest.now c.iter.ensures.rest (search rules)
