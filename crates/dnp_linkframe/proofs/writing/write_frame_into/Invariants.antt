use Rattle.std.proofs.Common.{◌≡◌, ◌∷◌}
use Rattle.dnp_linkframe.specs.Frames.{header, blocks}
use Rattle.dnp_linkframe.proofs.Blocks.{Writes}
use Rattle.dnp_linkframe.proofs.writing.write_frame_into.Given as goal

abbrev pub invariant-loop-block : goal.invariant-loop-block
invariant-loop-block l =
    (l.block-iterator.size ≡ 16)
    × Writes (header l.frame ∷ blocks l.frame.user.items) l.unit.items l.block-iterator.rest.now
