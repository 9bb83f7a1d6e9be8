-- Private steps: the division of a message by the generator, octet by octet.
use Rattle.std.specs.Prelude.{ℕ, ◌*◌, Bool, List, length}
use Rattle.dnp_linkframe.specs.Polynomials.{plus, times, times_x, IsSame}
use Rattle.dnp_linkframe.specs.CheckWord.{message, remainder, generator}

-- `rest` is what a division of p by the generator leaves, up to a further multiple of the generator.
pub record Leaves (p rest : List Bool) : Type 0 where
  pub quotient : List Bool
  pub same : IsSame p (plus rest (times quotient generator))

-- What one step of the division owes: with `old` left of the octets before, `new` is left of them and
-- `octets` after them.
abbrev pub Continues : List ℕ → ℕ → ℕ → Type 0
Continues octets old new =
    Leaves (plus (times_x (8 * length octets) (remainder old)) (times_x 16 (message octets))) (remainder new)
