-- A text in which nothing parts it.
use Rattle.std.proofs.Common.{◌≡◌, ℕ, ◌+◌, Bool, List, [], length, take, drop, ◌∙◌, ap, arith}
use Rattle.std.proofs.lemmas.Grind.{common_steps}
use Rattle.std.specs.List.{before_first, after_first, position_or_len}

pub whole_before : (p : ℕ → Bool) (xs : List ℕ) → position_or_len p xs ≡ length xs → xs ≡ before_first p xs
whole_before p xs e = grind (arith, common_steps)

pub nothing_after : (p : ℕ → Bool) (xs : List ℕ) → position_or_len p xs ≡ length xs → [] ≡ after_first p xs
nothing_after p xs e = grind (arith, common_steps)
