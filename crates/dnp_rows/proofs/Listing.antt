-- A list of so many cells, by its places.
use Rattle.std.proofs.Common.{◌≡◌, ℕ, zero, suc, ◌+◌, false, ℤ, List, [], ◌∷◌, length, get_or, drop, Option, Some, None, refl, ap, ◌∙◌, arith}
use Rattle.std.proofs.Math.Seq.{drop-cons}
use Rattle.std.proofs.lemmas.List.{drop_all}
use Rattle.std.specs.Option.{is_some}

-- the elements at so many places, from one on
abbrev places : {X : Type 0} → List X → X → ℕ → ℕ → List X
places xs d i zero = []
places xs d i (suc n) = get_or xs i d ∷ places xs d (suc i) n

by_places : {X : Type 0} (xs : List X) (d : X) (i n : ℕ) → length xs ≡ i + n → drop i xs ≡ places xs d i n
by_places xs d i zero len = drop_all i xs (omega (arith, len))
by_places xs d i (suc n) len =
    drop-cons xs i d (omega (arith, len)) ∙ ap (λ l. get_or xs i d ∷ l) (by_places xs d (suc i) n (omega (arith, len)))

none_there : (cell : Option ℤ) → is_some cell ≡ false → cell ≡ None
none_there None is = refl
none_there (Some n) is = cc

pub six_cells : (xs : List (Option ℤ)) → length xs ≡ 6 → is_some (get_or xs 0 None) ≡ false
    → xs ≡ None ∷ get_or xs 1 None ∷ get_or xs 2 None ∷ get_or xs 3 None ∷ get_or xs 4 None ∷ get_or xs 5 None ∷ []
six_cells xs len first =
    by_places xs None 0 6 len ∙ ap (λ cell. cell ∷ places xs None 1 5) (none_there (get_or xs 0 None) first)

pub eleven_cells : (xs : List (Option ℤ)) → length xs ≡ 11 → is_some (get_or xs 0 None) ≡ false
    → xs ≡ None ∷ get_or xs 1 None ∷ get_or xs 2 None ∷ get_or xs 3 None ∷ get_or xs 4 None ∷ get_or xs 5 None ∷ get_or xs 6 None
    ∷ get_or xs 7 None ∷ get_or xs 8 None ∷ get_or xs 9 None ∷ get_or xs 10 None ∷ []
eleven_cells xs len first =
    by_places xs None 0 11 len ∙ ap (λ cell. cell ∷ places xs None 1 10) (none_there (get_or xs 0 None) first)
