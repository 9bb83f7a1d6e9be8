-- Definition: numbers in words: decimal digits, and a minus before them where the number may be negative.
use Rattle.std.specs.Prelude.{ℕ, ◌+◌, ◌==◌, nat_lt, Bool, false, ◌&&◌, if◌then◌else◌, ℤ, pos, neg_ℤ, List, [], ◌∷◌, drop, slice_index, Option, Some, None}
use Rattle.std.specs.Option.{option_map}
use Rattle.std.specs.Str.{all_ascii_digits}
use Rattle.std.specs.Str.Parse.{digits_value}

-- one decimal digit or more, and nothing else; zeros may come first
abbrev pub is_numeral : List ℕ → Bool
is_numeral [] = false
is_numeral (digit ∷ digits) = all_ascii_digits (digit ∷ digits)

-- the number that the word writes, if it is below the bound
abbrev pub number_below : ℕ → List ℕ → Option ℕ
number_below bound word =
    if is_numeral word && nat_lt (digits_value 10 word) bound then Some (digits_value 10 word) else None

-- the same with a sign: at least minus the bound, and below it; 45 is the minus
abbrev pub integer_within : ℕ → List ℕ → Option ℤ
integer_within bound word =
    if slice_index word 0 == 45
    then option_map (λ n. neg_ℤ (pos n)) (number_below (bound + 1) (drop 1 word))
    else option_map pos (number_below bound word)
