use Rattle.std.proofs.Common.{length}
use Rattle.dnp_captures.proofs.blocks.decode_blocks.Given as goal

abbrev pub decreases-file : goal.decreases-file
decreases-file l = length l.rest
