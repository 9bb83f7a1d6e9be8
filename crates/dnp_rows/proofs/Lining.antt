-- The lines of rows, one more of them.
use Rattle.std.proofs.Common.{◌≡◌, ℕ, ◌+◌, ◌<◌, ◌≤◌, List, [], ◌∷◌, ◌++◌, length, drop, get_or, sym, subst, append-nil, add-one, drop-cons}
use Rattle.std.proofs.lemmas.List.{drop_all}
use Rattle.dnp_rows.specs.declared.item.Item.{Item}
use Rattle.dnp_rows.specs.Lines.{AreLines}
use Rattle.dnp_rows.specs.Lines.AreLines.{NoMore, GoesOn}

-- the line of the next row, and those of the rows after it
pub next_line : (IsOf : Item → List ℕ → Type 0) (items : List Item) (i : ℕ) (d : Item) (line rest : List ℕ) → i < length items → IsOf (get_or items i d) line
    → AreLines IsOf (drop (i + 1) items) rest → AreLines IsOf (drop i items) (line ++ rest)
next_line IsOf items i d line rest low spelt lines =
    let here : drop i items ≡ get_or items i d ∷ drop (i + 1) items = rw add-one (drop-cons items i d low) in
    subst (λ (l : List Item). AreLines IsOf l (line ++ rest)) (sym here) (GoesOn (get_or items i d) (drop (i + 1) items) line rest spelt lines)

-- no row is left
pub last_line : (IsOf : Item → List ℕ → Type 0) (items : List Item) (i : ℕ) (done : List ℕ) → length items ≤ i
    → ((rest : List ℕ) → AreLines IsOf (drop i items) rest → AreLines IsOf items (done ++ rest)) → AreLines IsOf items done
last_line IsOf items i done past more =
    subst (AreLines IsOf items) (append-nil done)
    (more [] (subst (λ (l : List Item). AreLines IsOf l []) (sym (drop_all i items past)) NoMore))
