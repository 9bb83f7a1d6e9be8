-- What an event of the whole is to each centre, by where it is.
use Rattle.std.proofs.Common.{◌≡◌, ◌==◌, ℕ, ◌<◌, Bool, true, false, Option, Some, None, refl, ap, subst, not, eqb-true}
use Rattle.std.specs.Prelude.{nat_lt}
use Rattle.std.proofs.lemmas.Bool.{ltb-true}
use Rattle.dnp_eventbuf.specs.Sides.{ForEach}
use Rattle.dnp_eventbuf.specs.declared.pair.TheConstants.{CENTRES}
use Rattle.dnp_world.specs.Centres.{ChangesAll, IsSeen, SeesElsewhere, is_elsewhere, is_there}
use Rattle.dnp_world.specs.SystemRuns.{IfThere}
use Rattle.dnp_world.specs.Systems.{System}
use Rattle.dnp_world.specs.Wholes.{Whole, seen_by}
use Rattle.dnp_world.proofs.Seen.{own_link, sees_same}

-- what all centres but one see is elsewhere to them
abbrev pub Others : ℕ → Whole → Whole → Type 0
Others n old new = ForEach (λ m. (n == m) ≡ false → SeesElsewhere (seen_by m old) (seen_by m new))

-- what is seen as the change is, or as what is elsewhere
pub by_seen : (Leaves : Type 0) (Change : System → System → Type 0) (b : Bool) (s t : System) → (Change s t → Leaves) → (SeesElsewhere s t → Leaves)
    → IsSeen b Change s t → Leaves
by_seen Leaves Change true s t here elsewhere x = elsewhere x
by_seen Leaves Change false s t here elsewhere x = here x

-- what an event of the whole leaves, by where it is: of what all centres see alike, at one of them, or at none there is
pub by_place : (Leaves : Type 0) (Change : System → System → Type 0) (o : Option ℕ) (old new : Whole)
    → (o ≡ None → ForEach (λ n. Change (seen_by n old) (seen_by n new)) → Leaves)
    → ((n : ℕ) → n < CENTRES → o ≡ Some n → Change (seen_by n old) (seen_by n new) → Others n old new → Leaves)
    → ((n : ℕ) → o ≡ Some n → nat_lt n CENTRES ≡ false → new ≡ old → Leaves) → IfThere (is_there o) (ChangesAll o Change) old new → Leaves
by_place Leaves Change None old new all one none h = all refl h
by_place Leaves Change (Some n) old new all one none h = by (nat_lt n CENTRES) refl h
  where
    others : ChangesAll (Some n) Change old new → Others n old new
    others h m few apart =
        subst (λ (b : Bool). IsSeen (not b) Change (seen_by m old) (seen_by m new)) apart (h m few)

    by : (b : Bool) → nat_lt n CENTRES ≡ b → IfThere b (ChangesAll (Some n) Change) old new → Leaves
    by true is h =
        let low : n < CENTRES = ltb-true n CENTRES is in
        one n low refl (subst (λ (b : Bool). IsSeen b Change (seen_by n old) (seen_by n new)) (own_link n) (h n low)) (others h)
    by false high same = none n refl high same

-- what holds to each centre, whether the event is seen there or is elsewhere
pub to_each : (Leaves : ℕ → Type 0) (Change : System → System → Type 0) (o : Option ℕ) (old new : Whole)
    → ((n : ℕ) → Change (seen_by n old) (seen_by n new) → Leaves n) → ((n : ℕ) → SeesElsewhere (seen_by n old) (seen_by n new) → Leaves n)
    → IfThere (is_there o) (ChangesAll o Change) old new → ForEach Leaves
to_each Leaves Change o old new here elsewhere h = by (is_there o) h
  where
    by : (b : Bool) → IfThere b (ChangesAll o Change) old new → ForEach Leaves
    by true h n low = by_seen (Leaves n) Change (is_elsewhere n o) (seen_by n old) (seen_by n new) (here n) (elsewhere n) (h n low)
    by false same n low = elsewhere n (sees_same (seen_by n old) (seen_by n new) (ap (seen_by n) same))

-- what is done at one centre, by what it is to that one and to the others
pub done_at : (n : ℕ) (Change : System → System → Type 0) (old new : Whole) → Change (seen_by n old) (seen_by n new) → Others n old new
    → ChangesAll (Some n) Change old new
done_at n Change old new here others m low = by (n == m) refl
  where
    by : (b : Bool) → (n == m) ≡ b → IsSeen (not b) Change (seen_by m old) (seen_by m new)
    by true is = subst (λ (k : ℕ). Change (seen_by k old) (seen_by k new)) (eqb-true n m is) here
    by false apart = others m low apart
