use Rattle.std.proofs.Common.{List, ◌∙◌, sym, subst}
use Rattle.dnp_pointdb.specs.declared.state.BlockState.{BlockState}
use Rattle.dnp_pointdb.specs.Sound.{AreSoundBlocks}
use Rattle.dnp_pointdb.proofs.database.PointDb.blocks.Goals as goal

pub returns-clause-sound_blocks : goal.returns-clause-sound_blocks
returns-clause-sound_blocks c =
    subst (λ (bs : List BlockState). AreSoundBlocks c.args.kind bs) (sym (c.blocks-2.ensures ∙ c.bank.ensures.value)) (c.bank.ensures.sound c.args.kind)
