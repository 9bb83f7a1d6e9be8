use Rattle.std.proofs.Common.{arith}
use Rattle.dnp_pointdb.proofs.Marks.{seen_more, seen_all}
use Rattle.dnp_pointdb.proofs.taken.share_index.Goals as goal

pub loop-block-preserved : goal.loop-block-preserved
loop-block-preserved c =
    seen_more c.args.blocks.now c.loop-block.block-index c.loop-block.marks c.meets.new.marks c.block-item.result c.loop-block.invariant
    c.loop-block-test.true c.block-item.is (λ met. grind (arith, c.if-meets.ensures.met.1 met)) c.if-meets.ensures.marked

pub returns : goal.returns
returns c =
    (λ no. grind (arith, no), λ shares. absurd (seen_all c.args.blocks.now c.loop-block.block-index c.loop-block.marks c.loop-block.invariant c.loop-block-test.false shares))
