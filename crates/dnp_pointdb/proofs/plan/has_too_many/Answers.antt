use Rattle.std.proofs.Common.{rules}
use Rattle.std.specs.List.{Any}
use Rattle.dnp_pointdb.specs.Plan.{blocks_of, HasTooMany}
use Rattle.dnp_pointdb.proofs.ByKind.{any_kind}
use Rattle.dnp_pointdb.proofs.plan.has_too_many.Goals as goal

pub returns : goal.returns
returns c = any_kind (λ kind. Any HasTooMany (blocks_of c.args.blocks.now kind)) c.any.result c.iter.result.rest.now c.iter.ensures.rest (search rules)
