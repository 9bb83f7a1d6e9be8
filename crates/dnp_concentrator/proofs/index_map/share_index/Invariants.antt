use Rattle.dnp_concentrator.proofs.Refusals.{NoneBefore}
use Rattle.dnp_concentrator.proofs.index_map.share_index.Given as goal

abbrev pub invariant-loop-number : goal.invariant-loop-number
invariant-loop-number l = NoneBefore l.kind l.substations l.number
