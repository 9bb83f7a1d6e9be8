-- Definition: lists of things that each are of a substation, and lists of which each thing is the same number of times (own rule).
use Rattle.std.specs.Prelude.{◌≡◌, ◌==◌, ℕ, ◌+◌, Bool, if◌then◌else◌, List, [], ◌∷◌, ◌++◌, count_by}
use Rattle.dnp_world.specs.Systems.{at_substation}

-- what stands in the list for this substation, in order
abbrev pub of_substation : {Thing : Type 0} → ℕ → List (ℕ × Thing) → List Thing
of_substation substation [] = []
of_substation substation (thing ∷ things) =
    (if thing.0 == substation then thing.1 ∷ of_substation substation things else of_substation substation things)

-- what substations have, beside their numbers, which go on from this one
abbrev pub listed_from : {Substation Thing : Type 0} → (Substation → List Thing) → ℕ → List Substation → List (ℕ × Thing)
listed_from things_of number [] = []
listed_from things_of number (s ∷ substations) = at_substation number (things_of s) ++ listed_from things_of (number + 1) substations

-- each thing stands in the one list as often as in the other: whatever one counts, both have as many of it
pub record HasSameCounts {Thing : Type 0} (xs ys : List Thing) : Type 0 where
  pub same : (test : Thing → Bool) → count_by test xs ≡ count_by test ys
