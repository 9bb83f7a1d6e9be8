use Rattle.std.proofs.Common.{◌≡◌}
use Rattle.dnp_linkframe.proofs.ReadBlocks.{Checks}
use Rattle.dnp_linkframe.proofs.reading.check_blocks.Given as goal

abbrev pub invariant-loop-number : goal.invariant-loop-number
invariant-loop-number l =
    (l.number-iterator.iter.size ≡ 18)
    × Checks l.octets l.number-iterator.iter.rest.now l.number-iterator.count
