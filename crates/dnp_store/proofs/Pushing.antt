-- Lists by their places.
use Rattle.std.proofs.Common.{◌≡◌, ◌≢◌, inl, inr, ℕ, zero, suc, ◌+◌, ◌<◌, List, [], ◌∷◌, ◌++◌, length, get_or, set, All, refl, sym, subst, arith}
use Rattle.std.proofs.lemmas.Bool.{cases_eq}
use Rattle.std.proofs.lemmas.List.{get_or_default, get_or-set_same, get_or-set_other}

-- what is so at each place is so of all
pub all_from : {X : Type 0} (P : X → Type 0) (xs : List X) (d : X) → ((k : ℕ) → k < length xs → P (get_or xs k d)) → All P xs
all_from P xs d h = λ k e low. subst P (get_or_default xs k d e low) (h k low)

module _ {X : Type 0} where
  in_front : (xs : List X) (y d : X) (k : ℕ) → k < length xs → get_or (xs ++ y ∷ []) k d ≡ get_or xs k d
  in_front [] y d k low = absurd (omega arith)
  in_front (x ∷ xs) y d zero low = refl
  in_front (x ∷ xs) y d (suc k) low = in_front xs y d k (omega arith)

  at_end : (xs : List X) (y d : X) (k : ℕ) → k ≡ length xs → get_or (xs ++ y ∷ []) k d ≡ y
  at_end [] y d zero is = refl
  at_end [] y d (suc k) is = absurd (omega arith)
  at_end (x ∷ xs) y d zero is = absurd (omega arith)
  at_end (x ∷ xs) y d (suc k) is = at_end xs y d k (omega arith)

  -- what is so of each element is so with one more
  pub pushed_each : (P : ℕ → X → Type 0) (xs : List X) (x d : X) (n : ℕ) → length xs ≡ n → ((k : ℕ) → k < n → P k (get_or xs k d)) → P n x
      → (k : ℕ) → k < n + 1 → P k (get_or (xs ++ x ∷ []) k d)
  pushed_each P xs x d n long each one k low = elim (cases_eq k n) [
    | inl same ↦ subst (P k) (sym (at_end xs x d k (omega arith))) (subst (λ (j : ℕ). P j x) (sym same) one)
    | inr other ↦ subst (P k) (sym (in_front xs x d k (omega arith))) (each k (omega arith))
  ]

  -- one element is another
  pub set_each : (P : ℕ → X → Type 0) (xs : List X) (x d : X) (n k : ℕ) → n < length xs → P n x → (k ≢ n → P k (get_or xs k d)) → P k (get_or (set xs n x) k d)
  set_each P xs x d n k low one other = elim (cases_eq k n) [
    | inl same ↦ subst (λ (j : ℕ). P j (get_or (set xs n x) j d)) (sym same) (subst (P n) (sym (get_or-set_same xs n x d low)) one)
    | inr apart ↦ subst (P k) (sym (get_or-set_other xs n k x d apart)) (other apart)
  ]
