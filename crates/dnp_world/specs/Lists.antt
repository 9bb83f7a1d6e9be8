-- Definition: what may still come of a way: a list that loses members at the front and gets new ones after
-- (own rule: the line keeps the order, may lose what it carries, and may give it again at once).
use Rattle.std.specs.Prelude.{◌≡◌, List, [], ◌∷◌, ◌++◌, ◌⊎◌, ⊤}

-- xs is what is left of ys without some of its first members
abbrev pub IsEnd : {X : Type 0} → List X → List X → Type 0
IsEnd xs [] = xs ≡ []
IsEnd xs (y ∷ ys) = (xs ≡ y ∷ ys) ⊎ IsEnd xs ys

-- each member is such
abbrev pub Each : {X : Type 0} → (X → Type 0) → List X → Type 0
Each P [] = ⊤
Each P (x ∷ xs) = P x × Each P xs

-- some old ones, and after them only new ones
abbrev pub Turns : {X : Type 0} → (X → Type 0) → (X → Type 0) → List X → Type 0
Turns Old New [] = ⊤
Turns Old New (x ∷ xs) = (New x × Each New xs) ⊎ (Old x × Turns Old New xs)

-- what is picked out of each member, in order
abbrev pub picked : {X Y : Type 0} → (X → List Y) → List X → List Y
picked pick [] = []
picked pick (x ∷ xs) = pick x ++ picked pick xs
