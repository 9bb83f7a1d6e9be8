-- Definition: where the parts of a fragment lie: nothing is copied. A reference has the block of memory in
-- which it lies and the offset in it (`ref_ptr.0`, `ref_ptr.1`), in octets.
use Rattle.std.specs.Prelude.{◌≡◌, ℕ, ◌+◌, List, length, Option, MatchOption}
use Rattle.std.specs.Borrow.{Bor}
use Rattle.std.specs.Iterator.{YieldsFirstBy}
use Rattle.dnp_appfragment.specs.declared.header.Header.{Header}
use Rattle.dnp_appfragment.specs.Left.{Left}
use Rattle.dnp_appfragment.specs.Seen.{head}

-- the part is the end of the source, in its memory
abbrev pub EndsWith : Bor (List ℕ) → Bor (List ℕ) → Type 0
EndsWith source part = (part.ref_ptr.0 ≡ source.ref_ptr.0) × (part.ref_ptr.1 + length part.now ≡ source.ref_ptr.1 + length source.now)

-- the part lies in the source's memory, and the rest, which is the end of the source, begins where
-- the part ends
abbrev pub IsPart : Bor (List ℕ) → Bor (List ℕ) → Bor (List ℕ) → Type 0
IsPart source part rest = EndsWith source rest × (part.ref_ptr.0 ≡ source.ref_ptr.0) × (part.ref_ptr.1 + length part.now ≡ rest.ref_ptr.1)

-- the first of the headers that are left is given, if there is one, and the others are left; its
-- objects lie in what was left, and what is left now begins where they end. Where there is none,
-- nothing changes
abbrev pub YieldsHeader : Left → Option Header → Left → Type 0
YieldsHeader old given new =
    YieldsFirstBy head (λ (l : Left). l.headers) old given new × MatchOption given (new.rest ≡ old.rest) (λ h. IsPart old.rest h.octets new.rest)
