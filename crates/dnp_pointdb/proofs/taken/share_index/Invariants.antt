use Rattle.dnp_pointdb.proofs.Marks.{Seen}
use Rattle.dnp_pointdb.proofs.taken.share_index.Given as goal

abbrev pub invariant-loop-block : goal.invariant-loop-block
invariant-loop-block l = Seen l.blocks l.block-index l.marks
