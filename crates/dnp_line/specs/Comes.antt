-- Definition: what came out of a line against what went into it: two lists, oldest first. The members are
-- fragments, but nothing here looks into one, so these words serve lists of any kind. They know no
-- frames, no numbers and no counts of losses.
use Rattle.std.specs.Prelude.{◌≡◌, ℕ, Bool, true, false, List, [], ◌∷◌, Some, slice_get, drop, ⊤, if◌then◌else◌}

-- `came` came of `sent`: all that came was sent, and in that order; some of what was sent may be
-- missing, and a member may come several times in a row.
-- Nothing comes of any list. `member` and then `later` come of `sent` where `member` stands at some
-- place of `sent`, and `later` comes of `sent` from that place on. The member at that place is still
-- there, and so may come again.
abbrev pub Comes : {X : Type 0} → List X → List X → Type 0
Comes [] sent = ⊤
Comes (member ∷ later) sent = (n : ℕ) × (slice_get sent n ≡ Some member) × Comes later (drop n sent)

-- `came` came of `sent`, and `rest` may still come. `rest` is an end of `sent`: at most the member
-- that came last, which may come again, and all that was sent after it.
abbrev pub ComesTo : {X : Type 0} → List X → List X → List X → Type 0
ComesTo [] sent rest = (n : ℕ) × (rest ≡ drop n sent)
ComesTo (member ∷ later) sent rest = (n : ℕ) × (slice_get sent n ≡ Some member) × ComesTo later (drop n sent) rest

-- `Comes` as a test, for members that `equal` compares. It holds where nothing came. Else it fails
-- where nothing was sent. Else, where the two first members are equal, what came without its first
-- has to come of what was sent; where they differ, what came has to come of what was sent without
-- its first.
abbrev pub comes : {X : Type 0} → (X → X → Bool) → List X → List X → Bool
comes equal [] sent = true
comes equal (member ∷ later) [] = false
comes equal (member ∷ later) (first ∷ others) =
    if equal member first then comes equal later (first ∷ others) else comes equal (member ∷ later) others
