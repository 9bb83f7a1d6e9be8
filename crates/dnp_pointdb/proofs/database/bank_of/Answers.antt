use Rattle.std.proofs.Common.{List, subst}
use Rattle.dnp_pointdb.specs.declared.point.Block.{Block}
use Rattle.dnp_pointdb.specs.declared.fault.PlanFault.TheVariants.{Overlap}
use Rattle.dnp_pointdb.specs.Blocks.{ShareIndex}
use Rattle.dnp_pointdb.proofs.database.bank_of.Goals as goal

pub new-requires : goal.new-requires
new-requires c = λ shares.
    c.blocks-2.ensures.sound Overlap (c.args.kind, subst (λ (bs : List Block). ShareIndex bs) c.blocks-2.ensures.value shares)
