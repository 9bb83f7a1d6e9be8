-- What is left of a list, one further.
use Rattle.std.proofs.Common.{◌≡◌, ℕ, zero, suc, ◌+◌, List, [], ◌∷◌, drop, ap, subst, arith}

behind : {A : Type 0} (k : ℕ) (xs : List A) (x : A) (more : List A) → drop k xs ≡ x ∷ more → drop (suc k) xs ≡ more
behind zero xs x more e = ap (drop 1) e
behind (suc k) [] x more e = ap (drop 1) e
behind (suc k) (y ∷ xs) x more e = behind k xs x more e

-- after the first of what is left
pub one_further : {A : Type 0} (k : ℕ) (xs : List A) (x : A) (more : List A) → drop k xs ≡ x ∷ more → drop (k + 1) xs ≡ more
one_further k xs x more e =
    let next : suc k ≡ k + 1 = omega arith in
    subst (λ j. drop j xs ≡ more) next (behind k xs x more e)
