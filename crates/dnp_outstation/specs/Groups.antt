-- Definition: a list that is cut from the left into groups: each begins with the first member left, and goes on as long as
-- that one reaches the next.
use Rattle.std.specs.Prelude.{◌≡◌, Bool, false, if◌then◌else◌, List, [], ◌∷◌, ◌++◌, IsTrue, ⊤}
use Rattle.std.specs.List.{flat_map, AllByRecursion}

pub record Group (A : Type 0) : Type 0 where
  pub first : A
  pub more : List A

abbrev pub group : {A : Type 0} → A → List A → Group A
group first more = record { first = first; more = more }

abbrev pub members : {A : Type 0} → Group A → List A
members g = g.first ∷ g.more

-- ---- what a cut is

-- the first of each group doesn't reach the first of the next
abbrev pub AreApart : {A : Type 0} → (A → A → Bool) → List (Group A) → Type 0
AreApart reaches [] = ⊤
AreApart reaches (g ∷ []) = ⊤
AreApart reaches (g ∷ h ∷ gs) = (reaches g.first h.first ≡ false) × AreApart reaches (h ∷ gs)

-- the groups are all of the list, in order; the first of each reaches all others of its group, and not the next one
pub record IsCut {A : Type 0} (reaches : A → A → Bool) (items : List A) (groups : List (Group A)) : Type 0 where
  pub whole : flat_map members groups ≡ items
  pub within : AllByRecursion (λ g. AllByRecursion (λ x. IsTrue (reaches g.first x)) g.more) groups
  pub apart : AreApart reaches groups

-- ---- the one cut

-- a group that has begun, and what comes behind it
abbrev pub grown : {A : Type 0} → (A → A → Bool) → A → List A → List A → List (Group A)
grown reaches first more [] = group first more ∷ []
grown reaches first more (x ∷ xs) =
    if reaches first x then grown reaches first (more ++ x ∷ []) xs else group first more ∷ grown reaches x [] xs

abbrev pub cut : {A : Type 0} → (A → A → Bool) → List A → List (Group A)
cut reaches [] = []
cut reaches (x ∷ xs) = grown reaches x [] xs
