-- Tables whose rows stand under ids that rise.
use Rattle.std.proofs.Common.{◌≡◌, ℕ, ◌+◌, ◌+ℤ◌, ◌<◌, ◌≤◌, pos, Bool, true, false, cond, List, [], ◌∷◌, ◌++◌, map, filter, refl, ap, ◌∙◌, arith, Less, Equal, Greater, int_cmp, IsPermutation}
use Rattle.std.specs.declared.cmp.Ordering.{Ordering}
use Rattle.std.specs.Ordering.{is_eq, match_ordering}
use Rattle.std.proofs.lemmas.List.Sorted.{IsPermutation-refl, IsPermutation-cons, IsPermutation-middle, IsPermutation-trans}
use Rattle.sqlite_trees.proofs.ListLemmas.{all-permutation}
use Rattle.sqlite.specs.declared.types.Value.{Value}
use Rattle.std.specs.Prelude.{fold}
use Rattle.std.specs.List.{AllByRecursion}
use Rattle.std.proofs.lemmas.Int.{ints}
use Rattle.sqlite_value.proofs.OrderLemmas.{value_cmp-Int}
use Rattle.sqlite.specs.declared.types.Value.TheVariants.{Int}
use Rattle.sqlite.specs.Order.{Row, value_cmp}
use Rattle.sqlite.specs.Tree.{IsAscending, IsTable, put_row, rowid}
use Rattle.sqlite.specs.Edit.{next_rowid, id_in}

cmp_less : (a b : ℕ) → a < b → int_cmp (pos a) (pos b) ≡ Less
cmp_less a b h = grind (h, arith, ints)

pub is_less : (a b : ℕ) → a < b → value_cmp (Int (pos a)) (Int (pos b)) ≡ Less
is_less a b h = value_cmp-Int (pos a) (pos b) ∙ cmp_less a b h

-- ---- rows in any order, under ids up to a number

abbrev pub IsUnder : ℕ → Row → Type 0
IsUnder n r = (id : ℕ) × (rowid r ≡ Int (pos id)) × (id ≤ n)

-- a row above all others is put last
pub put_last : (rows : List Row) (n : ℕ) (rest : Row) → AllByRecursion (IsUnder n) rows
    → put_row (Int (pos (n + 1)) ∷ rest) rows ≡ rows ++ (Int (pos (n + 1)) ∷ rest) ∷ []
put_last [] n rest low = refl
put_last (r ∷ rows) n rest low =
    let first = low.0.2 in
    rw (low.0.1, is_less low.0.0 (n + 1) (omega arith)) (ap (λ rs. r ∷ rs) (put_last rows n rest low.1))

next_from : (rows : List Row) (k n : ℕ) → k ≤ n + 1 → AllByRecursion (IsUnder n) rows
    → (m : ℕ) × (fold (λ _ r. id_in (rowid r) +ℤ pos 1) (pos k) rows ≡ pos m) × (m ≤ n + 1)
next_from [] k n low all = (k, refl, low)
next_from (r ∷ rows) k n low all =
    let first = all.0.2 in
    let rest = next_from rows (all.0.0 + 1) n (omega arith) all.1 in
    (rest.0, ap (λ (v : Value). fold (λ _ r. id_in (rowid r) +ℤ pos 1) (id_in v +ℤ pos 1) rows) all.0.1 ∙ rest.1, rest.2)

-- the next rowid is at most the one that follows the last id used
pub next_is : (rows : List Row) (n : ℕ) → AllByRecursion (IsUnder n) rows → (m : ℕ) × (next_rowid rows ≡ pos m) × (m ≤ n + 1)
next_is rows n all = next_from rows 1 n (omega arith) all

-- a row whose rowid no other has is put somewhere among them
pub put_apart : (new : Row) (rows : List Row) → AllByRecursion (λ r. is_eq (value_cmp (rowid r) (rowid new)) ≡ false) rows
    → IsPermutation (new ∷ rows) (put_row new rows)
put_apart new [] apart = IsPermutation-refl (new ∷ [])
put_apart new (r ∷ rows) apart = go (value_cmp (rowid r) (rowid new)) apart.0 (put_apart new rows apart.1)
  where
    go : (o : Ordering) → is_eq o ≡ false → IsPermutation (new ∷ rows) (put_row new rows)
        → IsPermutation (new ∷ r ∷ rows) (match_ordering o (r ∷ put_row new rows) (new ∷ rows) (new ∷ r ∷ rows))
    go Less other rest = IsPermutation-trans _ _ _ (IsPermutation-middle (new ∷ []) r rows) (IsPermutation-cons r _ _ rest)
    go Equal other rest = absurd cc
    go Greater other rest = IsPermutation-refl (new ∷ r ∷ rows)

module _ {X : Type 0} (id_of : X → ℕ) (cells : X → Row) where
  abbrev pub row : X → Row
  row x = Int (pos (id_of x)) ∷ cells x

  abbrev pub Rise : List X → Type 0
  Rise = IsAscending (λ x y. id_of x < id_of y)

  abbrev pub UpTo : ℕ → List X → Type 0
  UpTo n = AllByRecursion (λ x. id_of x ≤ n)

  -- such rows, in any order, are under these ids
  pub are_under : (xs : List X) (n : ℕ) (rows : List Row) → UpTo n xs → IsPermutation (map row xs) rows → AllByRecursion (IsUnder n) rows
  are_under xs n rows low same = all-permutation (IsUnder n) (map row xs) rows same (under xs low)
    where
      under : (xs : List X) → UpTo n xs → AllByRecursion (IsUnder n) (map row xs)
      under [] low = tt
      under (x ∷ xs) low = ((id_of x, refl, low.0), under xs low.1)

  pub up_to-more : (xs : List X) (m n : ℕ) → m ≤ n → UpTo m xs → UpTo n xs
  up_to-more [] m n low all = tt
  up_to-more (x ∷ xs) m n low all = let first = all.0 in (omega arith, up_to-more xs m n low all.1)

  pub up_to-push : (xs : List X) (y : X) (n : ℕ) → UpTo n xs → id_of y ≤ n → UpTo n (xs ++ y ∷ [])
  up_to-push [] y n all low = (low, tt)
  up_to-push (x ∷ xs) y n all low = (all.0, up_to-push xs y n all.1 low)

  all_under : (xs : List X) (x y : X) → AllByRecursion (λ z. id_of x < id_of z) xs → id_of x < id_of y → AllByRecursion (λ z. id_of x < id_of z) (xs ++ y ∷ [])
  all_under [] x y all low = (low, tt)
  all_under (z ∷ xs) x y all low = (all.0, all_under xs x y all.1 low)

  pub rise-push : (xs : List X) (y : X) (n : ℕ) → Rise xs → UpTo n xs → n < id_of y → Rise (xs ++ y ∷ [])
  rise-push [] y n rise all low = (tt, tt)
  rise-push (x ∷ xs) y n rise all low = let first = all.0 in (all_under xs x y rise.0 (omega arith), rise-push xs y n rise.1 all.1 low)

  pub all_over-filter : (P : X → Type 0) (p : X → Bool) (xs : List X) → AllByRecursion P xs → AllByRecursion P (filter p xs)
  all_over-filter P p [] all = tt
  all_over-filter P p (x ∷ xs) all = go (p x) (all_over-filter P p xs all.1)
    where
      go : (b : Bool) → AllByRecursion P (filter p xs) → AllByRecursion P (cond b (x ∷ filter p xs) (filter p xs))
      go true rest = (all.0, rest)
      go false rest = rest

  pub up_to-filter : (p : X → Bool) (xs : List X) (n : ℕ) → UpTo n xs → UpTo n (filter p xs)
  up_to-filter p xs n all = all_over-filter (λ x. id_of x ≤ n) p xs all

  pub rise-filter : (p : X → Bool) (xs : List X) → Rise xs → Rise (filter p xs)
  rise-filter p [] rise = tt
  rise-filter p (x ∷ xs) rise = go (p x) (rise-filter p xs rise.1)
    where
      go : (b : Bool) → Rise (filter p xs) → Rise (cond b (x ∷ filter p xs) (filter p xs))
      go true rest = (all_over-filter (λ z. id_of x < id_of z) p xs rise.0, rest)
      go false rest = rest

  below : (xs : List X) (x : X) → AllByRecursion (λ z. id_of x < id_of z) xs → AllByRecursion (λ r. value_cmp (rowid (row x)) (rowid r) ≡ Less) (map row xs)
  below [] x all = tt
  below (z ∷ xs) x all = (is_less (id_of x) (id_of z) all.0, below xs x all.1)

  -- rows under ids that rise are a table
  pub is_table : (xs : List X) → Rise xs → IsTable (map row xs)
  is_table [] rise = tt
  is_table (x ∷ xs) rise = (below xs x rise.0, is_table xs rise.1)
