-- What a query on `sqlite_sequence` shows of a queue for two centres.
use Rattle.std.proofs.Common.{◌≡◌, ◌≢◌, ◌⊎◌, ◌+◌, ◌≤◌, inl, inr, true, cond, length, get_or, ℕ, ℤ, pos, List, [], ◌∷◌, codes, map, false, None, Ok, Err, Result, IfOk, refl, sym, ap, subst, ◌∙◌, arith, int_cmp, Equal, IsPermutation}
use Rattle.std.specs.Prelude.{Vec, ◌↔◌}
use Rattle.std.specs.Ordering.{is_eq}
use Rattle.std.proofs.lemmas.Cmp.{tied_itself, int_cmp_total}
use Rattle.std.specs.declared.alloc.Global.{Global}
use Rattle.std.specs.List.{AllByRecursion}
use Rattle.std.proofs.lemmas.Int.{ints}
use Rattle.std.proofs.lemmas.List.Sorted.{IsPermutation-sym}
use Rattle.sqlite_trees.proofs.ListLemmas.{all-permutation, IsPermutation-filter}
use Rattle.sqlite_rules.specs.Lists.{Has}
use Rattle.sqlite_rules.proofs.ListLemmas.{all_has}
use Rattle.sqlite_value.proofs.OrderLemmas.{value_cmp-Int}
use Rattle.sqlite_value.specs.Order.{value_cmp}
use Rattle.sqlite_tied.specs.Compute.{everything}
use Rattle.sqlite.specs.declared.types.Value.{Value}
use Rattle.sqlite.specs.declared.types.Value.TheVariants.{Null, Int, Text}
use Rattle.sqlite.specs.Command.TheVariants.{Select}
use Rattle.sqlite.specs.Order.{Row, column}
use Rattle.sqlite.specs.Tree.{rowid}
use Rattle.sqlite.specs.Given.{IsPlain}
use Rattle.sqlite.specs.Listing.{understood, reads_listing}
use Rattle.sqlite.specs.State.{State, Shown}
use Rattle.sqlite.proofs.Callers.{command_of, one_permutation, reads_as}
use Rattle.dnp_store.specs.Tables.{HaveOwnIds, IsCounted, count_row, counts_of, sequence}
use Rattle.dnp_store.specs.PairTables.{Checks, IsOfSides, pair_schema, rows_name}
use Rattle.dnp_store.specs.declared.queue_side.QueueSide.TheVariants.{First, Second}
use Rattle.dnp_store.specs.steps.Pairs.{CountsTwo, ReadsPair}
use Rattle.dnp_store.specs.steps.Shown.{ShowsCountOf, ShowsTwo}
use Rattle.dnp_store.proofs.Opening.{count_query, count_terms, listed, none_left, query, shown_by, unchanged}
use Rattle.dnp_store.proofs.PairReading.{typed_pair_counts}
use Rattle.dnp_store.proofs.PairSchema.{names_apart}
use Rattle.dnp_store.proofs.Recounting.{AreApart, is_named, named_alone, same_name}
use Rattle.dnp_store.proofs.Rows.{IsTyped, count_row_is}
use Rattle.dnp_store.proofs.Seconding.{own_ids}

count_is : (c : Checks)
    → (command_of (understood (pair_schema c) count_query) ≡ Select (record { lets = []; body = query 2 count_terms })
    (codes "rowid" ∷ codes "name" ∷ codes "seq" ∷ [])) × (reads_listing (pair_schema c) count_query ≡ false)
unfolding understood everything
count_is c = (refl, refl)

pub count_plain : (c : Checks) → IsPlain (understood (pair_schema c) count_query)
unfolding understood everything
count_plain c = (refl, refl)

-- ---- the counts of two tables

-- one row under one name is none under another
none_else : (x y : List ℕ) → AreApart x y → (rows : List Row) (n : ℕ) → IsCounted x rows n → counts_of y rows ≡ []
none_else x y apart rows n (inl none) = ap (counts_of y) none.0
none_else x y apart rows n (inr one) = ap (counts_of y) one.1 ∙ rw apart refl

-- a row that shows a count is that count
row_of : (table : List ℕ) (r : Row) (id : ℤ) (n : ℕ) → IsTyped None sequence.columns r → ShowsCountOf table (shown_by count_terms r) id n
    → r ≡ count_row table id n
row_of table r id n typed shows = count_row_is r id (pos n) table typed shows.id_is shows.name shows.count

same_ids : (id next : ℤ) → value_cmp (Int id) (Int next) ≡ Equal → id ≡ next
same_ids id next tied = go id next (sym (value_cmp-Int id next) ∙ tied)
  where
    go : (a b : ℤ) → int_cmp a b ≡ Equal → a ≡ b
    go a b e = grind (e, arith, ints)

module _ (x y : List ℕ) (apart : AreApart x y) (back : AreApart y x) (rows : List Row) (n m : ℕ) where
  abbrev Both : Type 0
  Both = HaveOwnIds rows × IsCounted x (counts_of x rows) n × IsCounted y (counts_of y rows) m

  -- one of them is counted
  one_counted : IsCounted x rows n → m ≡ 0 → Both
  one_counted counted none = (own_ids x rows n counted, named_alone x rows n counted, inl (none_else x y apart rows n counted, none))

  -- both are
  two_counted : (id next : ℤ) → id ≢ next → IsPermutation (count_row x id n ∷ count_row y next m ∷ []) rows → Both
  two_counted id next differ perm = (
    own,
    inr (
      id,
      one_permutation a (counts_of x rows) (subst (λ rs. IsPermutation rs (counts_of x rows)) (rw (same_name x, back) refl)
          (IsPermutation-filter (is_named x) (a ∷ b ∷ []) rows perm)),
    ),
    inr (
      next,
      one_permutation b (counts_of y rows) (subst (λ rs. IsPermutation rs (counts_of y rows)) (rw (apart, same_name y) refl)
          (IsPermutation-filter (is_named y) (a ∷ b ∷ []) rows perm)),
    ),
  )
    where
      a : Row
      a = count_row x id n

      b : Row
      b = count_row y next m

      all : AllByRecursion (λ r. (r ≡ a) ⊎ (r ≡ b)) rows
      all = all-permutation (λ r. (r ≡ a) ⊎ (r ≡ b)) (a ∷ b ∷ []) rows perm (inl refl, (inr refl, tt))

      own : HaveOwnIds rows
      own u v has_u has_v tied = go (all_has (λ r. (r ≡ a) ⊎ (r ≡ b)) rows u all has_u) (all_has (λ r. (r ≡ a) ⊎ (r ≡ b)) rows v all has_v)
        where
          go : (u ≡ a) ⊎ (u ≡ b) → (v ≡ a) ⊎ (v ≡ b) → u ≡ v
          go (inl p) (inl q) = p ∙ sym q
          go (inr p) (inr q) = p ∙ sym q
          go (inl p) (inr q) = absurd (differ (same_ids id next (sym (ap (λ (r : Row). value_cmp (rowid r) (rowid b)) p)
              ∙ sym (ap (λ (r : Row). value_cmp (rowid u) (rowid r)) q) ∙ tied)))
          go (inr p) (inl q) = absurd (differ (sym (same_ids next id (sym (ap (λ (r : Row). value_cmp (rowid r) (rowid a)) p)
              ∙ sym (ap (λ (r : Row). value_cmp (rowid u) (rowid r)) q) ∙ tied))))

abbrev first_name : List ℕ
first_name = rows_name First

abbrev second_name : List ℕ
second_name = rows_name Second

shown_two : (table rs : List Row) (n m : ℕ) → IsPermutation table rs → AllByRecursion (IsTyped None sequence.columns) rs
    → ShowsTwo first_name second_name (map (shown_by count_terms) rs) n m
    → HaveOwnIds table × IsCounted first_name (counts_of first_name table) n × IsCounted second_name (counts_of second_name table) m
shown_two table [] n m perm typed shows =
    let none : table ≡ [] = none_left table [] perm refl in
    one_counted first_name second_name (names_apart First) (names_apart Second) table n m (inl (none, shows.0)) shows.1
shown_two table (r ∷ []) n m perm typed (inl one) =
    let is = one_permutation (count_row first_name one.0 n) table (subst (λ (x : Row). IsPermutation (x ∷ []) table)
    (row_of first_name r one.0 n typed.0 one.1) (IsPermutation-sym table (r ∷ []) perm)) in
    let both = one_counted first_name second_name (names_apart First) (names_apart Second) table n m (inr (one.0, is)) one.2 in
    both
shown_two table (r ∷ []) n m perm typed (inr one) =
    let is = one_permutation (count_row second_name one.0 m) table (subst (λ (x : Row). IsPermutation (x ∷ []) table)
    (row_of second_name r one.0 m typed.0 one.1) (IsPermutation-sym table (r ∷ []) perm)) in
    let both = one_counted second_name first_name (names_apart Second) (names_apart First) table m n (inr (one.0, is)) one.2 in
    (both.0, both.2, both.1)
shown_two table (r ∷ s ∷ []) n m perm typed (inl two) =
    let back = IsPermutation-sym table (r ∷ s ∷ []) perm in
    let here = subst (λ (x : Row). IsPermutation (x ∷ s ∷ []) table) (row_of first_name r two.0 n typed.0 two.2) back in
    let both = two_counted first_name second_name (names_apart First) (names_apart Second) table n m two.0 two.1 two.4
    (subst (λ (x : Row). IsPermutation (count_row first_name two.0 n ∷ x ∷ []) table) (row_of second_name s two.1 m typed.1.0 two.3) here) in
    both
shown_two table (r ∷ s ∷ []) n m perm typed (inr two) =
    let back = IsPermutation-sym table (r ∷ s ∷ []) perm in
    let here = subst (λ (x : Row). IsPermutation (x ∷ s ∷ []) table) (row_of second_name r two.0 m typed.0 two.2) back in
    let both = two_counted second_name first_name (names_apart Second) (names_apart First) table m n two.0 two.1 two.4
    (subst (λ (x : Row). IsPermutation (count_row second_name two.0 m ∷ x ∷ []) table) (row_of first_name s two.1 n typed.1.0 two.3) here) in
    (both.0, both.2, both.1)
shown_two table (r ∷ s ∷ t ∷ rs) n m perm typed shows = absurd shows

-- a row of a side is what its query shows of it
named : (rs : List Row) (n m : ℕ) → ShowsTwo first_name second_name (map (shown_by count_terms) rs) n m → AllByRecursion IsOfSides rs
named [] n m shows = tt
named (r ∷ []) n m (inl one) = (inl one.1.name, tt)
named (r ∷ []) n m (inr one) = (inr one.1.name, tt)
named (r ∷ s ∷ []) n m (inl two) = (inl two.2.name, (inr two.3.name, tt))
named (r ∷ s ∷ []) n m (inr two) = (inr two.2.name, (inl two.3.name, tt))
named (r ∷ s ∷ t ∷ rs) n m shows = absurd shows

counted_by : (table rs : List Row) (n m : ℕ) → IsPermutation table rs → AllByRecursion (IsTyped None sequence.columns) rs
    → ShowsTwo first_name second_name (map (shown_by count_terms) rs) n m → CountsTwo table n m
counted_by table rs n m perm typed shows =
    let both = shown_two table rs n m perm typed shows in
    let all = all-permutation IsOfSides rs table (IsPermutation-sym table rs perm) (named rs n m shows) in
    record { counts = record { own = both.0; only = λ r has. all_has IsOfSides table r all has }; first = both.1; second = both.2 }

-- ---- and what is counted is shown

-- a row under a name, and one that is not
is_under : (x : List ℕ) (r : Row) → column r 1 ≡ Text x → is_named x r ≡ true
is_under x r h = ap (λ (v : Value). is_eq (value_cmp v (Text x))) h ∙ same_name x

is_beside : (x y : List ℕ) (r : Row) → AreApart y x → column r 1 ≡ Text y → is_named x r ≡ false
is_beside x y r apart h = ap (λ (v : Value). is_eq (value_cmp v (Text x))) h ∙ apart

-- one more row under the name, or none
with_one : (x : List ℕ) (r : Row) (rs : List Row) → column r 1 ≡ Text x → counts_of x (r ∷ rs) ≡ r ∷ counts_of x rs
with_one x r rs h = ap (λ b. cond b (r ∷ counts_of x rs) (counts_of x rs)) (is_under x r h)

with_none : (x y : List ℕ) (r : Row) (rs : List Row) → AreApart y x → column r 1 ≡ Text y → counts_of x (r ∷ rs) ≡ counts_of x rs
with_none x y r rs apart h = ap (λ b. cond b (r ∷ counts_of x rs) (counts_of x rs)) (is_beside x y r apart h)

-- in another order the count is the same
counted_in : (x : List ℕ) (table rs : List Row) (n : ℕ) → IsPermutation table rs → IsCounted x (counts_of x table) n → IsCounted x (counts_of x rs) n
counted_in x table rs n perm (inl none) =
    let back = IsPermutation-sym (counts_of x table) (counts_of x rs) (IsPermutation-filter (is_named x) table rs perm) in
    inl (none_left (counts_of x rs) [] (subst (λ (ys : List Row). IsPermutation (counts_of x rs) ys) none.0 back) refl, none.1)
counted_in x table rs n perm (inr one) =
    inr (
      one.0,
      one_permutation (count_row x one.0 n) (counts_of x rs) (subst (λ (ys : List Row). IsPermutation ys (counts_of x rs)) one.1
          (IsPermutation-filter (is_named x) table rs perm)),
    )

none_of : (x : List ℕ) (n : ℕ) → IsCounted x [] n → n ≡ 0
none_of x n (inl none) = none.1
none_of x n (inr one) = absurd (let h = one.1 in cc)

one_of : (x : List ℕ) (r : Row) (n : ℕ) → IsCounted x (r ∷ []) n → (id : ℤ) × (r ≡ count_row x id n)
one_of x r n (inl none) = absurd (let h = none.0 in cc)
one_of x r n (inr one) = (one.0, ap (λ (rs : List Row). get_or rs 0 []) one.1)

at_most_one : (x : List ℕ) (rows : List Row) (n : ℕ) → IsCounted x rows n → length rows ≤ 1
at_most_one x rows n (inl none) = let long = ap length none.0 in omega (arith, long)
at_most_one x rows n (inr one) = let long = ap length one.1 in omega (arith, long)

shows_of : (x : List ℕ) (r : Row) (id : ℤ) (n : ℕ) → r ≡ count_row x id n → ShowsCountOf x (shown_by count_terms r) id n
shows_of x r id n is = subst (λ (z : Row). ShowsCountOf x (shown_by count_terms z) id n) (sym is) (record { id_is = refl; name = refl; count = refl })

-- each row is of one side or of the other
parted : (rs : List Row) → AllByRecursion IsOfSides rs → length rs ≡ length (counts_of first_name rs) + length (counts_of second_name rs)
parted [] all = refl
parted (r ∷ rs) all = go all.0 (parted rs all.1)
  where
    go : IsOfSides r → length rs ≡ length (counts_of first_name rs) + length (counts_of second_name rs)
        → length (r ∷ rs) ≡ length (counts_of first_name (r ∷ rs)) + length (counts_of second_name (r ∷ rs))
    go (inl h) rest =
        let a = ap length (with_one first_name r rs h) in
        let b = ap length (with_none second_name first_name r rs (names_apart First) h) in
        omega (arith, a, b, rest)
    go (inr h) rest =
        let a = ap length (with_none first_name second_name r rs (names_apart Second) h) in
        let b = ap length (with_one second_name r rs h) in
        omega (arith, a, b, rest)

id_tied : (id next : ℤ) → id ≡ next → value_cmp (Int id) (Int next) ≡ Equal
id_tied id next same = ap (λ (i : ℤ). value_cmp (Int id) (Int i)) (sym same) ∙ value_cmp-Int id id ∙ tied_itself int_cmp_total id

-- two rows of the one name and the other stand under different ids
differ : (x y : List ℕ) (r s : Row) (id next : ℤ) (n m : ℕ) → AreApart x y → HaveOwnIds (r ∷ s ∷ []) → r ≡ count_row x id n → s ≡ count_row y next m
    → id ≢ next
differ x y r s id next n m apart own r_is s_is same =
    let tied : value_cmp (rowid r) (rowid s) ≡ Equal =
    ap (λ (z : Row). value_cmp (rowid z) (rowid s)) r_is ∙ ap (λ (z : Row). value_cmp (Int id) (rowid z)) s_is ∙ id_tied id next same in
    let rows : count_row x id n ≡ count_row y next m = sym r_is ∙ own r s (inl refl) (inr (inl refl)) tied ∙ s_is in
    let names : true ≡ false = sym (same_name y) ∙ ap (is_named y) (sym rows) ∙ apart in
    cc

module _ (n m : ℕ) where
  abbrev First_in : List Row → Type 0
  First_in rs = IsCounted first_name rs n

  abbrev Second_in : List Row → Type 0
  Second_in rs = IsCounted second_name rs m

  shows_two : (rs : List Row) → HaveOwnIds rs → AllByRecursion IsOfSides rs → First_in (counts_of first_name rs) → Second_in (counts_of second_name rs)
      → ShowsTwo first_name second_name (map (shown_by count_terms) rs) n m
  shows_two [] own all a b = (none_of first_name n a, none_of second_name m b)
  shows_two (r ∷ []) own all a b = go all.0
    where
      go : IsOfSides r → ShowsTwo first_name second_name (map (shown_by count_terms) (r ∷ [])) n m
      go (inl h) =
          let it = one_of first_name r n (subst First_in (with_one first_name r [] h) a) in
          inl (
            it.0,
            shows_of first_name r it.0 n it.1,
            none_of second_name m (subst Second_in (with_none second_name first_name r [] (names_apart First) h) b),
          )
      go (inr h) =
          let it = one_of second_name r m (subst Second_in (with_one second_name r [] h) b) in
          inr (
            it.0,
            shows_of second_name r it.0 m it.1,
            none_of first_name n (subst First_in (with_none first_name second_name r [] (names_apart Second) h) a),
          )
  shows_two (r ∷ s ∷ []) own all a b = go all.0 all.1.0
    where
      go : IsOfSides r → IsOfSides s → ShowsTwo first_name second_name (map (shown_by count_terms) (r ∷ s ∷ [])) n m
      go (inl h) (inl k) =
          let long = at_most_one first_name (r ∷ s ∷ []) n (subst First_in (with_one first_name r (s ∷ []) h
          ∙ ap (λ (rs : List Row). r ∷ rs) (with_one first_name s [] k)) a) in
          absurd (omega (arith, long))
      go (inr h) (inr k) =
          let long = at_most_one second_name (r ∷ s ∷ []) m (subst Second_in (with_one second_name r (s ∷ []) h
          ∙ ap (λ (rs : List Row). r ∷ rs) (with_one second_name s [] k)) b) in
          absurd (omega (arith, long))
      go (inl h) (inr k) =
          let one = one_of first_name r n (subst First_in (with_one first_name r (s ∷ []) h
          ∙ ap (λ (rs : List Row). r ∷ rs) (with_none first_name second_name s [] (names_apart Second) k)) a) in
          let other = one_of second_name s m (subst Second_in (with_none second_name first_name r (s ∷ []) (names_apart First) h
          ∙ with_one second_name s [] k) b) in
          inl (
            one.0,
            other.0,
            shows_of first_name r one.0 n one.1,
            shows_of second_name s other.0 m other.1,
            differ first_name second_name r s one.0 other.0 n m (names_apart First) own one.1 other.1,
          )
      go (inr h) (inl k) =
          let one = one_of second_name r m (subst Second_in (with_one second_name r (s ∷ []) h
          ∙ ap (λ (rs : List Row). r ∷ rs) (with_none second_name first_name s [] (names_apart First) k)) b) in
          let other = one_of first_name s n (subst First_in (with_none first_name second_name r (s ∷ []) (names_apart Second) h
          ∙ with_one first_name s [] k) a) in
          inr (
            one.0,
            other.0,
            shows_of second_name r one.0 m one.1,
            shows_of first_name s other.0 n other.1,
            differ second_name first_name r s one.0 other.0 m n (names_apart Second) own one.1 other.1,
          )
  shows_two (r ∷ s ∷ t ∷ rs) own all a b =
      let parts = parted (r ∷ s ∷ t ∷ rs) all in
      let few = at_most_one first_name (counts_of first_name (r ∷ s ∷ t ∷ rs)) n a in
      let few_too = at_most_one second_name (counts_of second_name (r ∷ s ∷ t ∷ rs)) m b in
      absurd (omega (arith, parts, few, few_too))

all_there : (few rows : List Row) → ((r : Row) → Has few r → Has rows r) → AllByRecursion (Has rows) few
all_there [] rows there = tt
all_there (r ∷ few) rows there = (there r (inl refl), all_there few rows (λ x has. there x (inr has)))

shown_by_counts : (table rs : List Row) (n m : ℕ) → IsPermutation table rs → CountsTwo table n m
    → ShowsTwo first_name second_name (map (shown_by count_terms) rs) n m
shown_by_counts table rs n m perm counts =
    let back = IsPermutation-sym table rs perm in
    let inside = all-permutation (Has table) table rs perm (all_there table table (λ r has. has)) in
    let had : (r : Row) → Has rs r → Has table r = λ r has. all_has (Has table) rs r inside has in
    shows_two n m rs (λ x y has_x has_y tied. counts.counts.own x y (had x has_x) (had y has_y) tied)
    (all-permutation IsOfSides table rs perm (sides_of table (λ r has. counts.counts.only r has)))
    (counted_in first_name table rs n perm counts.first) (counted_in second_name table rs m perm counts.second)
  where
    sides_of : (rows : List Row) → ((r : Row) → Has rows r → IsOfSides r) → AllByRecursion IsOfSides rows
    sides_of [] only = tt
    sides_of (r ∷ rows) only = (only r (inl refl), sides_of rows (λ x has. only x (inr has)))

pub reads_two : (old new : State) (rows : List Row) → Shown count_query [] old new rows
    → ReadsPair old new (λ db. (n m : ℕ) → ShowsTwo first_name second_name rows n m ↔ CountsTwo (db 2) n m)
reads_two old new rows shown c sound has =
    let read = reads_as count_query [] old new (pair_schema c) has _ (count_is c).0 (count_plain c) (count_is c).1 rows shown in
    let got = listed 2 count_terms old.now.trees rows refl (read.answer Null) in
    let typed = all-permutation (IsTyped None sequence.columns) (old.now.trees 2) got.0 got.1 (typed_pair_counts old.now c has sound) in (
      unchanged count_query old new (pair_schema c) rows has (count_plain c) shown,
      λ n m. (
        λ shows. counted_by (old.now.trees 2) got.0 n m got.1 typed (subst (λ (rs : List Row). ShowsTwo first_name second_name rs n m) got.2 shows),
        λ counts. subst (λ (rs : List Row). ShowsTwo first_name second_name rs n m) (sym got.2) (shown_by_counts (old.now.trees 2) got.0 n m got.1 counts),
      ),
    )

pub two_if : {E : Type 0} (old new : State) (r : Result (Vec (List Value) Global) E) → IfOk r (λ rows. Shown count_query [] old new rows.items)
    → IfOk r (λ rows. ReadsPair old new (λ db. (n m : ℕ) → ShowsTwo first_name second_name rows.items n m ↔ CountsTwo (db 2) n m))
two_if old new (Ok rows) shown = reads_two old new rows.items shown
two_if old new (Err e) shown = tt
