-- Definition: things that each are of a substation, and how many more there is memory for.
use Rattle.std.specs.Prelude.{ℕ, List}

pub record Stationed (Thing : Type 0) : Type 0 where
  pub items : List (ℕ × Thing)
  pub room : ℕ
