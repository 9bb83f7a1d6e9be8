-- The list of what all substations have, where one of them is set.
use Rattle.std.proofs.Common.{◌≡◌, ◌≢◌, ℕ, zero, suc, ◌+◌, ◌<◌, List, [], ◌∷◌, ◌++◌, Some, None, refl, sym, ap, ◌∙◌, arith, append-nil}
use Rattle.std.specs.Prelude.{slice_get, slice_set, Option}
use Rattle.std.proofs.lemmas.Option.{none-some}
use Rattle.dnp_world.specs.Stations.{of_substation, listed_from}
use Rattle.dnp_world.specs.Systems.{at_substation}
use Rattle.dnp_world.proofs.SystemCounts.{of_substation-append, of_substation-at, of_substation-other}

-- ---- a list in which one is set

pub set_here : {S : Type 0} (xs : List S) (i : ℕ) (was is : S) → slice_get xs i ≡ Some was → slice_get (slice_set xs i is) i ≡ Some is
set_here [] zero was is e = absurd (none-some was e)
set_here [] (suc i) was is e = absurd (none-some was e)
set_here (x ∷ xs) zero was is e = refl
set_here (x ∷ xs) (suc i) was is e = set_here xs i was is e

pub set_there : {S : Type 0} (xs : List S) (i j : ℕ) (is : S) → j ≢ i → slice_get (slice_set xs i is) j ≡ slice_get xs j
set_there [] i j is other = refl
set_there (x ∷ xs) zero zero is other = absurd (other refl)
set_there (x ∷ xs) zero (suc j) is other = refl
set_there (x ∷ xs) (suc i) zero is other = refl
set_there (x ∷ xs) (suc i) (suc j) is other = set_there xs i j is (λ same. other (ap (λ (n : ℕ). suc n) same))

-- ---- what one of them has

abbrev pub things_at : {S A : Type 0} → (S → List A) → Option S → List A
things_at things_of None = []
things_at things_of (Some s) = things_of s

none_before : {S A : Type 0} (things_of : S → List A) (n j : ℕ) (xs : List S) → j < n → of_substation j (listed_from things_of n xs) ≡ []
none_before things_of n j [] low = refl
none_before {S} {A} things_of n j (x ∷ xs) low =
    let rest : of_substation j (listed_from things_of (n + 1) xs) ≡ [] = none_before things_of (n + 1) j xs (omega (arith, low)) in
    of_substation-append j (at_substation n (things_of x)) (listed_from things_of (n + 1) xs)
    ∙ ap (λ (ys : List A). ys ++ of_substation j (listed_from things_of (n + 1) xs)) (of_substation-other j n (λ same. absurd (omega (
      arith,
      low,
      same,
    ))) (things_of x))
    ∙ rest

append_none : {A : Type 0} (xs ys : List A) → ys ≡ [] → xs ++ ys ≡ xs
append_none {A} xs ys e = ap (λ (zs : List A). xs ++ zs) e ∙ append-nil xs

listed_on : {S A : Type 0} (things_of : S → List A) (n j : ℕ) (xs : List S)
    → of_substation (n + j) (listed_from things_of n xs) ≡ things_at things_of (slice_get xs j)
listed_on things_of n zero [] = refl
listed_on things_of n (suc j) [] = refl
listed_on {S} {A} things_of n zero (x ∷ xs) =
    let here : n + zero ≡ n = omega arith in
    ap (λ (m : ℕ). of_substation m (listed_from things_of n (x ∷ xs))) here
    ∙ of_substation-append n (at_substation n (things_of x)) (listed_from things_of (n + 1) xs)
    ∙ append_none (of_substation n (at_substation n (things_of x))) (of_substation n (listed_from things_of (n + 1) xs)) (none_before things_of (n + 1) n xs
    (omega arith))
    ∙ of_substation-at n (things_of x)
listed_on {S} {A} things_of n (suc j) (x ∷ xs) =
    let next : n + suc j ≡ (n + 1) + j = omega arith in
    of_substation-append (n + suc j) (at_substation n (things_of x)) (listed_from things_of (n + 1) xs)
    ∙ ap (λ (ys : List A). ys ++ of_substation (n + suc j) (listed_from things_of (n + 1) xs)) (of_substation-other (n + suc j) n (λ same. absurd (omega
    (arith, same))) (things_of x))
    ∙ ap (λ (m : ℕ). of_substation m (listed_from things_of (n + 1) xs)) next ∙ listed_on things_of (n + 1) j xs

pub listed_at : {S A : Type 0} (things_of : S → List A) (j : ℕ) (xs : List S)
    → of_substation j (listed_from things_of 0 xs) ≡ things_at things_of (slice_get xs j)
listed_at things_of j xs =
    let same : 0 + j ≡ j = omega arith in
    ap (λ (m : ℕ). of_substation m (listed_from things_of 0 xs)) (sym same) ∙ listed_on things_of 0 j xs

-- what the one that is set has ..
pub listed_here : {S A : Type 0} (things_of : S → List A) (xs : List S) (i : ℕ) (was is : S) → slice_get xs i ≡ Some was
    → of_substation i (listed_from things_of 0 (slice_set xs i is)) ≡ things_of is
listed_here things_of xs i was is e = listed_at things_of i (slice_set xs i is) ∙ ap (things_at things_of) (set_here xs i was is e)

-- .. and each other
pub listed_there : {S A : Type 0} (things_of : S → List A) (xs : List S) (i j : ℕ) (is : S) → j ≢ i
    → of_substation j (listed_from things_of 0 (slice_set xs i is)) ≡ of_substation j (listed_from things_of 0 xs)
listed_there things_of xs i j is other =
    listed_at things_of j (slice_set xs i is) ∙ ap (things_at things_of) (set_there xs i j is other) ∙ sym (listed_at things_of j xs)
