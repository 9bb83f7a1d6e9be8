-- Whether a filter keeps something is whether something passes its test.
use Rattle.std.proofs.Common.{◌≡◌, ◌<◌, ℕ, zero, suc, Bool, true, false, ◌||◌, cond, List, [], ◌∷◌, take, length, ap, arith, refl}
use Rattle.std.specs.List.{filter, list_any}

keeps_none : {A : Type 0} (b rest : Bool) (x : A) (kept : List A) → (b || rest) ≡ false → (rest ≡ false → kept ≡ []) → cond b (x ∷ kept) kept ≡ []
keeps_none true rest x kept none more = absurd (let h : true ≡ false = none in cc)
keeps_none false rest x kept none more = more none

keeps_some : {A : Type 0} (b rest : Bool) (x : A) (kept : List A) → (b || rest) ≡ true → (rest ≡ true → kept ≡ [] → ⊥) → cond b (x ∷ kept) kept ≡ [] → ⊥
keeps_some true rest x kept some more none = absurd (omega (arith, ap length none))
keeps_some false rest x kept some more none = more some none

pub filter-none : {A : Type 0} (p : A → Bool) (xs : List A) → list_any p xs ≡ false → filter p xs ≡ []
filter-none p [] none = refl
filter-none p (x ∷ xs) none = keeps_none (p x) (list_any p xs) x (filter p xs) none (filter-none p xs)

pub filter-some : {A : Type 0} (p : A → Bool) (xs : List A) → list_any p xs ≡ true → filter p xs ≡ [] → ⊥
filter-some p [] some none = absurd (let h : false ≡ true = some in cc)
filter-some p (x ∷ xs) some none = keeps_some (p x) (list_any p xs) x (filter p xs) some (filter-some p xs) none

pub take-none : {A : Type 0} (n : ℕ) (xs : List A) → xs ≡ [] → take n xs ≡ []
take-none zero xs none = refl
take-none (suc n) [] none = refl
take-none (suc n) (x ∷ xs) none = absurd (omega (arith, ap length none))
