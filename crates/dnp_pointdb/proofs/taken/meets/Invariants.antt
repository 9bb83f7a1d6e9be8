use Rattle.dnp_pointdb.proofs.Marks.{Marked}
use Rattle.dnp_pointdb.proofs.taken.meets.Given as goal

abbrev pub invariant-loop-index : goal.invariant-loop-index
invariant-loop-index l = Marked l.initial.marks l.marks l.first l.index
