-- Definition: the address of a station, as text.
use Rattle.std.specs.Prelude.{ℕ, List, ◌≡◌, ◌≤◌}
use Rattle.std.specs.Str.Parse.{IsNumeral, digits_value}
use Rattle.dnp_streams.specs.declared.address.TheConstants.{MAX_ADDRESS}

-- The text is one decimal digit or more, and nothing else, and they write n, which is an address that
-- one station alone may have (IEEE Std 1815-2012, data link layer: those above are set apart).
abbrev pub IsAddressText : List ℕ → ℕ → Type 0
IsAddressText text n = IsNumeral 10 text × (digits_value 10 text ≡ n) × (n ≤ MAX_ADDRESS)
