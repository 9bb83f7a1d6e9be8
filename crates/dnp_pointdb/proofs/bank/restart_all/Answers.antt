use Rattle.std.proofs.Common.{sym, ◌∙◌}
use Rattle.dnp_pointdb.specs.Database as spec
use Rattle.dnp_pointdb.proofs.Mapped.{done-none, done-step, done-all}
use Rattle.dnp_pointdb.proofs.bank.restart_all.Goals as goal

pub loop-block-init : goal.loop-block-init
loop-block-init c = sym (done-none spec.restarted_block c.args.blocks.now)

pub loop-block-preserved : goal.loop-block-preserved
loop-block-preserved c =
    done-step spec.restarted_block c.loop-block.block-index c.args.blocks.now c.loop-block.blocks _ _ c.loop-block.invariant c.loop-block-test.true c.restart.ensures

pub returns : goal.returns
returns c = c.loop-block.invariant ∙ done-all spec.restarted_block c.loop-block.block-index c.args.blocks.now c.loop-block-test.false
