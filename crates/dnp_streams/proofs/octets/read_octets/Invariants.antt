use Rattle.std.proofs.Common.{◌≡◌}
use Rattle.dnp_streams.proofs.SpacedPieces.{Reads}
use Rattle.dnp_streams.specs.OctetLines.{without_line_feed}
use Rattle.dnp_streams.proofs.octets.read_octets.Given as goal

abbrev pub invariant-loop-piece : goal.invariant-loop-piece
invariant-loop-piece l =
    (l.piece-iterator.size ≡ 3) × Reads (without_line_feed l.text) l.octets.items l.piece-iterator.rest.now
