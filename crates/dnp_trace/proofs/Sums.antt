-- A sum takes a word of two octets, or the last octet.
use Rattle.std.proofs.Common.{◌≡◌, ℕ, ◌+◌, ◌*◌, ◌<◌, List, [], ◌∷◌, length, drop, slice_index, refl, arith}
use Rattle.dnp_trace.specs.Captures.{added, sum_from}

pub sum_of_two : (sum : ℕ) (xs : List ℕ) → 1 < length xs
    → sum_from sum xs ≡ sum_from (added sum (slice_index xs 0 * 256 + slice_index xs 1)) (drop 2 xs)
unfolding sum_from
sum_of_two sum [] h = absurd (omega arith)
sum_of_two sum (x ∷ []) h = absurd (omega arith)
sum_of_two sum (x ∷ y ∷ xs) h = refl

pub sum_of_one : (sum : ℕ) (xs : List ℕ) → length xs ≡ 1 → sum_from sum xs ≡ added sum (slice_index xs 0 * 256)
unfolding sum_from
sum_of_one sum [] h = absurd (omega arith)
sum_of_one sum (x ∷ []) h = refl
sum_of_one sum (x ∷ y ∷ xs) h = absurd (omega arith)

pub sum_of_none : (sum : ℕ) (xs : List ℕ) → length xs ≡ 0 → sum_from sum xs ≡ sum
unfolding sum_from
sum_of_none sum [] h = refl
sum_of_none sum (x ∷ xs) h = absurd (omega arith)
