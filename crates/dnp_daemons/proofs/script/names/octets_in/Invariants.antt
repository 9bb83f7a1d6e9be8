use Rattle.std.proofs.Common.{◌≡◌, ◌++◌, ◌+◌, ◌*◌, length}
use Rattle.std.specs.Option.{option_map}
use Rattle.dnp_daemons.specs.Names.{octets_in_digits}
use Rattle.dnp_daemons.proofs.script.names.octets_in.Given as goal

-- the octets of the digits are those that stand there and those of the digits to come
abbrev pub invariant-loop-rest : goal.invariant-loop-rest
invariant-loop-rest l =
    (octets_in_digits l.fn.word ≡ option_map (λ more. l.octets.items ++ more) (octets_in_digits l.rest))
    × (2 * length l.octets.items + length l.rest ≡ length l.fn.word)

abbrev pub decreases-loop-rest : goal.decreases-loop-rest
decreases-loop-rest l = length l.rest
