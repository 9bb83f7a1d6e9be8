-- Definition: the qualifiers of object headers (IEEE Std 1815-2012, application layer: object headers).
use Rattle.std.specs.Prelude.{ℕ, ◌==◌, List, [], ◌∷◌, Option, find}
use Rattle.dnp_standard.specs.declared.qualifier.Qualifier.{Qualifier}
use Rattle.dnp_standard.specs.declared.qualifier.Form.{Form}
use Rattle.dnp_standard.specs.declared.qualifier.Form.TheVariants.{All, Span, Count}
use Rattle.dnp_standard.specs.declared.qualifier.Width.{Width}
use Rattle.dnp_standard.specs.declared.qualifier.Width.TheVariants.{Zero, One, Two, Four}

abbrev pub width_of : Width → ℕ
width_of Zero = 0
width_of One = 1
width_of Two = 2
width_of Four = 4

-- by its octet: what the range says, in how many octets each of its numbers is, and in how many octets an index, or a size, stands
-- before each object
abbrev pub qualifier : ℕ → Form → Width → Width → Width → Qualifier
qualifier octet form width index size = record { octet = octet; form = form; width = width; index = index; size = size }

-- all of them. The numbers of 03 to 05 are addresses; 06 has no range
unfoldable pub qualifiers : List Qualifier
qualifiers =
    qualifier 0x00 Span One Zero Zero
    ∷ qualifier 0x01 Span Two Zero Zero
    ∷ qualifier 0x02 Span Four Zero Zero
    ∷ qualifier 0x03 Span One Zero Zero
    ∷ qualifier 0x04 Span Two Zero Zero
    ∷ qualifier 0x05 Span Four Zero Zero
    ∷ qualifier 0x06 All Zero Zero Zero
    ∷ qualifier 0x07 Count One Zero Zero
    ∷ qualifier 0x08 Count Two Zero Zero
    ∷ qualifier 0x09 Count Four Zero Zero
    ∷ qualifier 0x17 Count One One Zero
    ∷ qualifier 0x18 Count Two One Zero
    ∷ qualifier 0x19 Count Four One Zero
    ∷ qualifier 0x27 Count One Two Zero
    ∷ qualifier 0x28 Count Two Two Zero
    ∷ qualifier 0x29 Count Four Two Zero
    ∷ qualifier 0x37 Count One Four Zero
    ∷ qualifier 0x38 Count Two Four Zero
    ∷ qualifier 0x39 Count Four Four Zero
    ∷ qualifier 0x4B Count One Zero One
    ∷ qualifier 0x5B Count One Zero Two
    ∷ qualifier 0x6B Count One Zero Four
    ∷ []

-- the qualifier of an octet, if it is one's
unfoldable pub qualifier_of : ℕ → Option Qualifier
qualifier_of octet = find (λ q. q.octet == octet) qualifiers
