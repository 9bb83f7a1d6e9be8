-- Private steps: a part of a line, as it is read.
use Rattle.std.specs.Prelude.{◌≡◌, ℕ, List, [], ◌∷◌, ◌++◌, take}
use Rattle.std.specs.Str.{str_to_ascii_uppercase}
use Rattle.dnp_streams.specs.OctetLines.{octet_text}

-- a part of a line begins with this octet: its two digits, of either case, and a space after them
-- unless the part ends there (so three characters of the part with a space after it are compared)
abbrev pub BeginsWith : List ℕ → ℕ → Type 0
BeginsWith part octet =
    take 3 (str_to_ascii_uppercase part ++ 32 ∷ []) ≡ octet_text octet ++ 32 ∷ []
