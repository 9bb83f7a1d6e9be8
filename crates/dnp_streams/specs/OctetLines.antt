-- Definition: lines of hexadecimal octets, the text form in which units travel: each octet is two hexadecimal
-- digits, and one space is between each two octets.
use Rattle.std.specs.Prelude.{◌≡◌, ℕ, ◌+◌, ◌-◌, ◌/◌, ◌*◌, ◌%◌, ◌<◌, ◌≤◌, ◌==◌, nat_lt, ◌&&◌, if◌then◌else◌, List, [], ◌∷◌, length, map, take, slice_index, All, Option, Some, None}
use Rattle.std.specs.Char.{digit_value}
use Rattle.std.specs.List.{join_with_byte}
use Rattle.std.specs.Str.{str_to_ascii_uppercase}
use Rattle.dnp_streams.specs.declared.octets.TheConstants.{MAX_CHARACTERS}

-- the capital hexadecimal digit of a number below 16: '0' is 48, and 'A' is 65
abbrev pub digit : ℕ → ℕ
digit n = if nat_lt n 10 then 48 + n else 55 + n

-- an octet as its two digits, the higher one first
abbrev pub octet_text : ℕ → List ℕ
octet_text octet = digit (octet / 16) ∷ digit (octet % 16) ∷ []

-- the octet of two hexadecimal digits of either case
abbrev pub octet_named : ℕ → ℕ → Option ℕ
octet_named high low =
    if nat_lt (digit_value high) 16 && nat_lt (digit_value low) 16 then Some (digit_value high * 16 + digit_value low) else None

-- octets as a line of text: one space, 32, is between each two of them
abbrev pub line_of : List ℕ → List ℕ
line_of octets = join_with_byte 32 (map octet_text octets)

-- the text without the line feed, 10, that may end it; only one is taken off
abbrev pub without_line_feed : List ℕ → List ℕ
without_line_feed text =
    if slice_index text (length text - 1) == 10 then take (length text - 1) text else text

-- the text is a line of these octets: at most MAX_CHARACTERS characters, not counting the line feed that may
-- end it, with digits of either case (a line has no letters but A to F)
pub record IsLineOf (text octets : List ℕ) : Type 0 where
  pub short : length (without_line_feed text) ≤ MAX_CHARACTERS
  pub digits : str_to_ascii_uppercase (without_line_feed text) ≡ line_of octets
  pub bytes : All (λ octet. octet < 256) octets
