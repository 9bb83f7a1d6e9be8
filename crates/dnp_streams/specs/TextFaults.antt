-- Definition: where a text stops being a line of octets. The characters of a line have places, from 0: every third is a space's, the
-- others are digits'.
use Rattle.std.specs.Prelude.{◌≡◌, ◌≢◌, ℕ, ◌%◌, ◌<◌, ◌≤◌, List, length, min, slice_index}
use Rattle.std.specs.Char.{to_ascii_uppercase}
use Rattle.dnp_streams.specs.declared.text.TextFault.{TextFault}
use Rattle.dnp_streams.specs.declared.text.TextFault.TheVariants.{NoDigit, NoSpace, Ends, TooLong}
use Rattle.dnp_streams.specs.OctetLines.{digit}
use Rattle.dnp_streams.specs.declared.octets.TheConstants.{MAX_CHARACTERS}

-- the character is a hexadecimal digit, of either case
abbrev pub IsDigit : ℕ → Type 0
IsDigit character = (value : ℕ) × (value < 16) × (to_ascii_uppercase character ≡ digit value)

-- the character may be at this place of a line
abbrev pub IsInPlace : ℕ → ℕ → Type 0
IsInPlace place character = (place % 3 ≡ 2 → character ≡ 32) × (place % 3 ≢ 2 → IsDigit character)

-- so do all the line's characters before this place
abbrev pub AreInPlace : List ℕ → ℕ → Type 0
AreInPlace line end = (place : ℕ) → place < end → IsInPlace place (slice_index line place)

-- the line, a text without the line feed that may end it, stops being a line of octets here
abbrev pub StopsBy : List ℕ → TextFault → Type 0
StopsBy line (NoDigit place character) =
    AreInPlace line place × (place < min MAX_CHARACTERS (length line)) × (character ≡ slice_index line place) × (place % 3 ≢ 2) × (IsDigit character → ⊥)
StopsBy line (NoSpace place character) =
    AreInPlace line place × (place < min MAX_CHARACTERS (length line)) × (character ≡ slice_index line place) × (place % 3 ≡ 2) × (character ≢ 32)
StopsBy line (Ends place) =
    AreInPlace line place × (place ≤ MAX_CHARACTERS) × (place ≡ length line) × (0 < place) × (place % 3 ≢ 2)
StopsBy line TooLong = AreInPlace line MAX_CHARACTERS × (MAX_CHARACTERS < length line)
