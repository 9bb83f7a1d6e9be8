use Rattle.std.proofs.Common.{◌≡◌, ℕ, ◌≤◌}
use Rattle.dnp_linkframe.proofs.ReadBlocks.{Reads}
use Rattle.dnp_linkframe.proofs.reading.copy_blocks.Given as goal
use Rattle.dnp_linkframe.specs.declared.frame.TheConstants.{MAX_USER_DATA}

abbrev pub invariant-loop-block : goal.invariant-loop-block
invariant-loop-block l = (size : ℕ) × (size ≤ MAX_USER_DATA) × (l.block-iterator.size ≡ 18) × Reads l.octets l.user.items l.block-iterator.rest.now size
