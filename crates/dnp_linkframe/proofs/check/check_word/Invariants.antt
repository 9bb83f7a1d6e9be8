use Rattle.std.proofs.Common.{◌+◌, ◌*◌, ◌/◌, ◌<◌, ◌^◌, length, take}
use Rattle.dnp_linkframe.specs.CheckWord.{message, remainder}
use Rattle.dnp_linkframe.specs.steps.Division.{Leaves}
use Rattle.dnp_linkframe.specs.Polynomials.{times_x}
use Rattle.dnp_linkframe.proofs.check.check_word.Given as goal

-- the blocks before have been divided
abbrev pub invariant-loop-block : goal.invariant-loop-block
invariant-loop-block l = (l.word < 2 ^ 16) × Leaves (times_x 16 (message (take (8 * l.block-index) l.octets))) (remainder l.word)

-- all blocks have been divided, and the octets before
abbrev pub invariant-loop-octet : goal.invariant-loop-octet
invariant-loop-octet l = (l.word < 2 ^ 16) × Leaves (times_x 16 (message (take (length l.octets / 8 * 8 + l.octet-index) l.octets))) (remainder l.word)
