-- The count that AUTOINCREMENT keeps, where one statement puts several rows in.
use Rattle.std.proofs.Common.{◌≡◌, ℕ, suc, ◌+◌, ◌+ℤ◌, ◌<◌, ◌≤◌, ℤ, pos, List, [], ◌∷◌, ◌++◌, length, map, true, refl, sym, ap, ap₂, subst, ◌∙◌, arith, int_cmp}
use Rattle.std.specs.Prelude.{fold}
use Rattle.std.specs.List.{AllByRecursion}
use Rattle.std.specs.Ordering.{is_lt}
use Rattle.std.proofs.lemmas.Int.{ints}
use Rattle.sqlite_tied.specs.Compute.{everything}
use Rattle.sqlite.specs.declared.types.Value.TheVariants.{Null, Int}
use Rattle.sqlite.specs.Order.{Row}
use Rattle.sqlite.specs.Tree.{put_row, rowid}
use Rattle.sqlite.specs.Edit.{next_rowid, at_least, with_rowid, id_in, numbered}
use Rattle.sqlite.specs.Rowids.TheVariants.{Above}
use Rattle.sqlite.specs.Rows.{higher}
use Rattle.dnp_store.proofs.IdRows.{IsUnder, put_last}

-- the rows under the ids that follow a number
abbrev pub ids_from : ℕ → List Row → List Row
ids_from n [] = []
ids_from n (r ∷ rs) = (Int (pos (n + 1)) ∷ r) ∷ ids_from (n + 1) rs

pub rises_to : (n m : ℕ) → n < m → is_lt (int_cmp (pos n) (pos m)) ≡ true
rises_to n m h = grind (h, arith, ints)

pub higher_is : (n : ℕ) (rest : Row) → higher (pos n) (Int (pos (n + 1)) ∷ rest) ≡ pos (n + 1)
higher_is n rest = rw (rises_to n (n + 1) (omega arith))

-- the last of them is the highest
pub highest : (n : ℕ) (rests : List Row) → fold higher (pos n) (ids_from n rests) ≡ pos (n + length rests)
highest n [] = ap pos (let e : n ≡ n + 0 = omega arith in e)
highest n (r ∷ rs) =
    ap (λ (t : ℤ). fold higher t (ids_from (n + 1) rs)) (higher_is n r) ∙ highest (n + 1) rs
    ∙ ap pos (let e : n + 1 + length rs ≡ n + suc (length rs) = omega arith in e)

next_after : (rows : List Row) (acc : ℤ) (n : ℕ) (rest : Row)
    → fold (λ _ r. id_in (rowid r) +ℤ pos 1) acc (rows ++ (Int (pos n) ∷ rest) ∷ []) ≡ pos n +ℤ pos 1
next_after [] acc n rest = refl
next_after (r ∷ rows) acc n rest = next_after rows (id_in (rowid r) +ℤ pos 1) n rest

above_is : (top k : ℕ) → top ≤ k → at_least (Above (pos top)) (pos k +ℤ pos 1) ≡ pos (k + 1)
above_is top k low = grind (low, arith, ints)

under_more : (rows : List Row) (n : ℕ) → AllByRecursion (IsUnder n) rows → AllByRecursion (IsUnder (n + 1)) rows
under_more [] n all = tt
under_more (r ∷ rows) n all = let first = all.0.2 in ((all.0.0, all.0.1, omega arith), under_more rows n all.1)

under_push : (rows : List Row) (n : ℕ) (rest : Row) → AllByRecursion (IsUnder n) rows → AllByRecursion (IsUnder n) (rows ++ (Int (pos n) ∷ rest) ∷ [])
under_push [] n rest all = ((n, refl, omega arith), tt)
under_push (r ∷ rows) n rest all = (all.0, under_push rows n rest all.1)

-- each row's id follows that of the row before it
pub numbered_on : (top k : ℕ) (rows rests : List Row) → AllByRecursion (IsUnder k) rows → at_least (Above (pos top)) (next_rowid rows) ≡ pos (k + 1) → top ≤ k
    → numbered (Above (pos top)) rows (map (λ r. Null ∷ r) rests) ≡ ids_from k rests
unfolding everything
numbered_on top k rows [] under next low = refl
numbered_on top k rows (r ∷ rs) under next low =
    let new : Row = Int (pos (k + 1)) ∷ r in
    let first : with_rowid (Above (pos top)) rows (Null ∷ r) ≡ new = ap (λ (x : ℤ). Int x ∷ r) next in
    let then : at_least (Above (pos top)) (next_rowid (rows ++ new ∷ [])) ≡ pos (k + 1 + 1) =
    ap (at_least (Above (pos top))) (next_after rows (pos 1) (k + 1) r) ∙ above_is top (k + 1) (omega arith) in
    let rest = numbered_on top (k + 1) (rows ++ new ∷ []) rs (under_push rows (k + 1) r (under_more rows k under)) then (omega arith) in
    ap₂ (λ (x : Row) (xs : List Row). x ∷ xs) first
    (subst (λ (x : Row). numbered (Above (pos top)) (put_row x rows) (map (λ r. Null ∷ r) rs) ≡ ids_from (k + 1) rs) (sym first)
    (subst (λ (all : List Row). numbered (Above (pos top)) all (map (λ r. Null ∷ r) rs) ≡ ids_from (k + 1) rs) (sym (put_last rows k r under)) rest))
