use Rattle.std.proofs.Common.{◌≡◌, length}
use Rattle.dnp_trace.specs.Captures.{sum_from}
use Rattle.dnp_trace.proofs.packet.sum_of.Given as goal

-- the sum so far and the octets that are left
abbrev pub invariant-words : goal.invariant-words
invariant-words l = sum_from l.sum l.rest ≡ sum_from l.start l.octets

abbrev pub decreases-words : goal.decreases-words
decreases-words l = length l.rest
