-- How many octets rows have that are written one after the other.
use Rattle.std.proofs.Common.{◌≡◌, refl, sym, ◌∙◌, ap, subst, ℕ, suc, ◌+◌, ◌-◌, ◌*◌, ◌<◌, ◌≤◌, get_or, List, [], ◌∷◌, ◌++◌, length, take, drop, arith, Option, Some, IsSome}
use Rattle.std.specs.Prelude.{All}
use Rattle.std.proofs.lemmas.List.{length-append, length-take-le, drop_more}
use Rattle.std.proofs.lemmas.List.Elements.{All-take, All-head, All-nil, All-cons}
use Rattle.dnp_objects.specs.declared.row.Row.{Row}
use Rattle.dnp_objects.specs.Objects.{object_size}
use Rattle.dnp_objects.specs.Rows.{Fits, written}
use Rattle.dnp_appfragment.specs.steps.Spans.{all_written}
use Rattle.dnp_appfragment.proofs.ObjectHeaders.{RowsFill}

abbrev pub AreSized : ℕ → ℕ → ℕ → List Row → Type 0
AreSized g v s rows = All (λ (row : Row). length (written g v row) ≡ s) rows

some_same : (a b : ℕ) → Some a ≡ Some b → a ≡ b
some_same a b is = cc

pub All-rest : {X : Type 0} (P : X → Type 0) (x : X) (xs : List X) → All P (x ∷ xs) → All P xs
All-rest P x xs all = λ k d less. all (suc k) d (omega arith)

-- the size of the first, and those of the others
pub first_sized : (g v s : ℕ) (row : Row) (rows : List Row) → AreSized g v s (row ∷ rows) → length (written g v row) ≡ s
first_sized g v s row rows each = All-head (λ (r : Row). length (written g v r) ≡ s) row rows each

pub others_sized : (g v s : ℕ) (row : Row) (rows : List Row) → AreSized g v s (row ∷ rows) → AreSized g v s rows
others_sized g v s row rows each = All-rest (λ (r : Row). length (written g v r) ≡ s) row rows each

pub each_size : RowsFill → (g v s : ℕ) (rows : List Row) → object_size g v ≡ Some s → All (Fits g v) rows → AreSized g v s rows
each_size law g v s [] sized fits = All-nil (λ (row : Row). length (written g v row) ≡ s)
each_size law g v s (row ∷ rows) sized fits =
    All-cons (λ (r : Row). length (written g v r) ≡ s) row rows
    (some_same (length (written g v row)) s (sym (law g v row (All-head (Fits g v) row rows fits)) ∙ sized))
    (each_size law g v s rows sized (All-rest (Fits g v) row rows fits))

pub all_size : (g v s : ℕ) (rows : List Row) → AreSized g v s rows → length (all_written g v rows) ≡ length rows * s
all_size g v s [] each = omega arith
all_size g v s (row ∷ rows) each =
    let rest : length (all_written g v rows) ≡ length rows * s = all_size g v s rows (others_sized g v s row rows each) in
    let here : length (written g v row) ≡ s = (first_sized g v s row rows each) in
    omega (arith, length-append (written g v row) (all_written g v rows))

-- of the first so many
pub taken_size : RowsFill → (g v s n : ℕ) (rows : List Row) → object_size g v ≡ Some s → All (Fits g v) rows → n ≤ length rows
    → length (all_written g v (take n rows)) ≡ n * s
taken_size law g v s n rows sized fits few =
    all_size g v s (take n rows) (each_size law g v s (take n rows) sized (All-take (Fits g v) n rows fits))
    ∙ ap (λ (k : ℕ). k * s) (length-take-le n rows few)

-- a size that there is
pub there_is_size : RowsFill → (g v : ℕ) (rows : List Row) (n : ℕ) → All (Fits g v) rows → 1 ≤ n → n ≤ length rows → IsSome (object_size g v)
there_is_size law g v [] n fits some few = absurd (omega arith)
there_is_size law g v (row ∷ rows) n fits some few = subst (λ (o : Option ℕ). IsSome o) (sym (law g v row (All-head (Fits g v) row rows fits))) refl

-- the rows that are left to write, one fewer
pub first_written : (g v : ℕ) (rows : List Row) (place count : ℕ) (d : Row) → place < count → count ≤ length rows → d ≡ d
    → all_written g v (take (count - place) (drop place rows))
    ≡ written g v (get_or rows place d) ++ all_written g v (take (count - (place + 1)) (drop (place + 1) rows))
first_written g v rows place count d more few same =
    ap (λ (l : List Row). all_written g v (take (count - place) l)) (drop_more rows place d (omega arith))
    ∙ ap (λ (n : ℕ). all_written g v (take n (get_or rows place d ∷ drop (place + 1) rows)))
    (let one : count - place ≡ suc (count - (place + 1)) = omega arith in one)
