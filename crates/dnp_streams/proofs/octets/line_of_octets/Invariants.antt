use Rattle.std.proofs.Common.{◌≡◌, ◌≤◌, ◌*◌, length, take}
use Rattle.dnp_streams.specs.OctetLines.{line_of}
use Rattle.dnp_streams.proofs.octets.line_of_octets.Given as goal

abbrev pub invariant-loop-index : goal.invariant-loop-index
invariant-loop-index l =
    (l.line.items ≡ line_of (take l.index l.octets)) × (length l.line.items ≤ 3 * l.index)
