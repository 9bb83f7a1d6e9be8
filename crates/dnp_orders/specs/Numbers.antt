-- Definition: numbers, times and control codes in words.
use Rattle.std.specs.Prelude.{ℕ, ◌+◌, ◌*◌, ◌-◌, ◌^◌, ◌==◌, nat_le, nat_lt, Bool, false, ◌&&◌, if◌then◌else◌, ℤ, pos, neg_ℤ, List, [], ◌∷◌, length, take, drop, slice_index, Option, Some, None, codes}
use Rattle.std.specs.List.{ends_with}
use Rattle.std.specs.Option.{option_map, option_and_then}
use Rattle.std.specs.Prelude.{nat_eq}
use Rattle.std.specs.Str.{all_ascii_digits}
use Rattle.std.specs.Str.Parse.{digits_value}

-- ---- decimal numbers

-- one decimal digit or more, and nothing else; zeros may come first
abbrev pub is_numeral : List ℕ → Bool
is_numeral [] = false
is_numeral (digit ∷ digits) = all_ascii_digits (digit ∷ digits)

-- the number that the word writes, if it is below the bound
abbrev pub number_below : ℕ → List ℕ → Option ℕ
number_below bound word =
    if is_numeral word && nat_lt (digits_value 10 word) bound then Some (digits_value 10 word) else None

-- the same with a sign: at least minus the bound, and below it; 45 is the minus
abbrev pub integer_within : ℕ → List ℕ → Option ℤ
integer_within bound word =
    if slice_index word 0 == 45
    then option_map (λ n. neg_ℤ (pos n)) (number_below (bound + 1) (drop 1 word))
    else option_map pos (number_below bound word)

-- ---- control codes

-- a hexadecimal digit: '0' is 48, 'A' 65 and 'a' 97
abbrev pub digit_written : ℕ → Option ℕ
digit_written c =
    if nat_le 48 c && nat_le c 57 then Some (c - 48)
    else (if nat_le 65 c && nat_le c 70 then Some (c - 55)
    else (if nat_le 97 c && nat_le c 102 then Some (c - 87) else None))

-- one hexadecimal digit, or two
abbrev pub octet_written : List ℕ → Option ℕ
octet_written [] = None
octet_written (low ∷ []) = digit_written low
octet_written (high ∷ low ∷ []) =
    option_and_then (λ h. option_and_then (λ l. Some (h * 16 + l)) (digit_written low)) (digit_written high)
octet_written (high ∷ low ∷ more ∷ digits) = None

-- a decimal number, or hexadecimal digits after 0x, which is 48 and 120
abbrev pub code_named : List ℕ → Option ℕ
code_named word =
    if slice_index word 0 == 48 && slice_index word 1 == 120
    then octet_written (drop 2 word)
    else number_below (2 ^ 8) word

-- ---- times

-- the word ends in the unit
abbrev pub ends_in : List ℕ → List ℕ → Bool
ends_in unit word = ends_with nat_eq word unit

-- what stands before it
abbrev pub front_of : List ℕ → List ℕ → List ℕ
front_of unit word = take (length word - length unit) word

-- so many seconds, in milliseconds
abbrev pub seconds_named : List ℕ → Option ℕ
seconds_named digits =
    option_and_then (λ n. if nat_lt (n * 1000) (2 ^ 32) then Some (n * 1000) else None) (number_below (2 ^ 32) digits)

-- a time in milliseconds: 100ms, or 2s
abbrev pub time_named : List ℕ → Option ℕ
time_named word =
    if ends_in (codes "ms") word then number_below (2 ^ 32) (front_of (codes "ms") word)
    else (if ends_in (codes "s") word then seconds_named (front_of (codes "s") word) else None)
