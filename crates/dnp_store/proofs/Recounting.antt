-- What becomes of the rows in which AUTOINCREMENT counts, where one table's count rises: each table has its row there.
use Rattle.std.proofs.Common.{◌≡◌, ◌⊎◌, inl, inr, ℕ, ℤ, List, filter, get_or, [], ◌∷◌, Bool, true, false, not, ◌&&◌, ◌||◌, cond, Some, refl, sym, ap, subst, ◌∙◌, int_cmp, Less, Equal, Greater}
use Rattle.std.specs.Prelude.{find, slice_get}
use Rattle.std.specs.declared.cmp.Ordering.{Ordering}
use Rattle.std.specs.List.{AllByRecursion}
use Rattle.std.specs.Ordering.{is_eq, match_ordering}
use Rattle.std.proofs.lemmas.Cmp.{tied_back, tied_itself, int_cmp_total, nat_list_cmp_total}
use Rattle.sqlite_value.proofs.OrderLemmas.{value_cmp_total, value_cmp-Int, value_cmp-Text}
use Rattle.sqlite_value.specs.Order.{value_cmp}
use Rattle.sqlite.specs.declared.types.Value.TheVariants.{Int, Text}
use Rattle.sqlite.specs.Order.{Row, column}
use Rattle.sqlite.specs.Tree.{put_row, rowid, has_rowid, without_rowid}
use Rattle.sqlite_rules.specs.Lists.{Has}
use Rattle.sqlite_rules.proofs.ListLemmas.{has_filtered}
use Rattle.sqlite_rules.proofs.TableLemmas.{put_has}
use Rattle.sqlite.specs.Edit.{is_taken, are_fresh}
use Rattle.dnp_store.specs.Tables.{HaveOwnIds, count_row, counts_of, IsCounted}

pub same_id : (id : ℤ) → is_eq (value_cmp (Int id) (Int id)) ≡ true
same_id id = ap is_eq (value_cmp-Int id id ∙ tied_itself int_cmp_total id)

pub same_name : (name : List ℕ) → is_eq (value_cmp (Text name) (Text name)) ≡ true
same_name name = ap is_eq (value_cmp-Text name name ∙ tied_itself nat_list_cmp_total name)

pub others_left : (n : ℤ) (rows : List Row) → AllByRecursion (λ r. has_rowid n r ≡ false) (without_rowid n rows)
others_left n [] = tt
others_left n (r ∷ rows) = go (has_rowid n r) refl (others_left n rows)
  where
    go : (b : Bool) → has_rowid n r ≡ b → AllByRecursion (λ x. has_rowid n x ≡ false) (without_rowid n rows)
        → AllByRecursion (λ x. has_rowid n x ≡ false) (cond (not b) (r ∷ without_rowid n rows) (without_rowid n rows))
    go true is rest = rest
    go false is rest = (is, rest)

-- ---- the rows under one name

-- the row counts for the table of this name
abbrev pub is_named : List ℕ → Row → Bool
is_named name r = is_eq (value_cmp (column r 1) (Text name))

-- two names that differ as texts do
abbrev pub AreApart : List ℕ → List ℕ → Type 0
AreApart a b = is_eq (value_cmp (Text a) (Text b)) ≡ false

pub find_is : (p : Row → Bool) (rows few : List Row) → filter p rows ≡ few → find p rows ≡ slice_get few 0
find_is p [] few is = ap (λ (rs : List Row). slice_get rs 0) is
find_is p (r ∷ rows) few is = go (p r) refl (find_is p rows few)
  where
    go : (b : Bool) → p r ≡ b → (filter p rows ≡ few → find p rows ≡ slice_get few 0) → cond b (Some r) (find p rows) ≡ slice_get few 0
    go true e rest = ap (λ (rs : List Row). slice_get rs 0) (ap (λ b. cond b (r ∷ filter p rows) (filter p rows)) (sym e) ∙ is)
    go false e rest = rest (ap (λ b. cond b (r ∷ filter p rows) (filter p rows)) (sym e) ∙ is)

-- a row under a name that none of them has is the only one under it
named_put : (name : List ℕ) (new : Row) (rows : List Row) → is_named name new ≡ true → counts_of name rows ≡ [] → counts_of name (put_row new rows) ≡ new ∷ []
named_put name new [] here none = rw here refl
named_put name new (r ∷ rows) here none = go (is_named name r) refl (named_put name new rows here)
  where
    after : (o : Ordering) → is_named name r ≡ false → counts_of name rows ≡ [] → counts_of name (put_row new rows) ≡ new ∷ []
        → counts_of name (match_ordering o (r ∷ put_row new rows) (new ∷ rows) (new ∷ r ∷ rows)) ≡ new ∷ []
    after Less e left rest = rw e rest
    after Equal e left rest = rw here (ap (λ (rs : List Row). new ∷ rs) left)
    after Greater e left rest = rw (here, e) (ap (λ (rs : List Row). new ∷ rs) left)

    go : (b : Bool) → is_named name r ≡ b → (counts_of name rows ≡ [] → counts_of name (put_row new rows) ≡ new ∷ [])
        → counts_of name (put_row new (r ∷ rows)) ≡ new ∷ []
    go true e rest = absurd (let some = ap (λ b. cond b (r ∷ counts_of name rows) (counts_of name rows)) (sym e) ∙ none in cc)
    go false e rest =
        let left : counts_of name rows ≡ [] = ap (λ b. cond b (r ∷ counts_of name rows) (counts_of name rows)) (sym e) ∙ none in
        after (value_cmp (rowid r) (rowid new)) e left (rest left)

-- a row under another name comes beside those under this one, where none has its id
other_put : (name : List ℕ) (new : Row) (rows : List Row) → is_named name new ≡ false
    → AllByRecursion (λ r. is_eq (value_cmp (rowid r) (rowid new)) ≡ false) rows → counts_of name (put_row new rows) ≡ counts_of name rows
other_put name new [] else apart = rw else refl
other_put name new (r ∷ rows) else apart = go (value_cmp (rowid r) (rowid new)) apart.0 (other_put name new rows else apart.1)
  where
    go : (o : Ordering) → is_eq o ≡ false → counts_of name (put_row new rows) ≡ counts_of name rows
        → counts_of name (match_ordering o (r ∷ put_row new rows) (new ∷ rows) (new ∷ r ∷ rows)) ≡ counts_of name (r ∷ rows)
    go Less e rest = ap (λ (rs : List Row). cond (is_named name r) (r ∷ rs) rs) rest
    go Equal e rest = absurd cc
    go Greater e rest = rw else refl

-- The row that counted is replaced, or one comes to those that count: under this name there is none beside it, and those under others stay.
pub record Recounts (name : List ℕ) (before : List Row) (top : ℕ) (after : List Row) : Type 0 where
  pub id : ℤ
  pub is : after ≡ put_row (count_row name id top) (without_rowid id before)
  pub none : counts_of name (without_rowid id before) ≡ []
  pub spared : (other : List ℕ) → AreApart name other → HaveOwnIds before → counts_of other (without_rowid id before) ≡ counts_of other before

-- so the count is that
pub counted_so : (name : List ℕ) (before after : List Row) (top : ℕ) → Recounts name before top after → IsCounted name (counts_of name after) top
counted_so name before after top h =
    inr (h.id, ap (counts_of name) h.is ∙ named_put name (count_row name h.id top) (without_rowid h.id before) (same_name name) h.none)

-- the others stay
pub others_so : (name other : List ℕ) (before after : List Row) (top : ℕ) → Recounts name before top after → AreApart name other → HaveOwnIds before
    → counts_of other after ≡ counts_of other before
others_so name other before after top h apart table =
    ap (counts_of other) h.is ∙ other_put other (count_row name h.id top) (without_rowid h.id before) apart (others_left h.id before) ∙ h.spared other apart table

-- and rows under one id are one row still
pub table_so : (name : List ℕ) (before after : List Row) (top : ℕ) → Recounts name before top after → HaveOwnIds before → HaveOwnIds after
table_so name before after top h own x y has_x has_y tied =
    go (put_has new rest x (subst (λ rs. Has rs x) h.is has_x)) (put_has new rest y (subst (λ rs. Has rs y) h.is has_y))
  where
    new : Row
    new = count_row name h.id top

    rest : List Row
    rest = without_rowid h.id before

    apart : (r : Row) → value_cmp (rowid r) (Int h.id) ≡ Equal → Has rest r → ⊥
    apart r same has = let kept = (has_filtered (λ z. not (has_rowid h.id z)) before r has).1 in let both = rw same at kept in cc

    go : (x ≡ new) ⊎ Has rest x → (y ≡ new) ⊎ Has rest y → x ≡ y
    go (inl a) (inl b) = a ∙ sym b
    go (inl a) (inr b) =
        absurd (apart y (tied_back value_cmp_total (Int h.id) (rowid y) (subst (λ (r : Row). value_cmp (rowid r) (rowid y) ≡ Equal) a tied)) b)
    go (inr a) (inl b) = absurd (apart x (subst (λ (r : Row). value_cmp (rowid x) (rowid r) ≡ Equal) b tied) a)
    go (inr a) (inr b) =
        own x y (has_filtered (λ z. not (has_rowid h.id z)) before x a).0 (has_filtered (λ z. not (has_rowid h.id z)) before y b).0 tied

-- a count that stands alone is the count under its name
pub named_alone : (name : List ℕ) (rows : List Row) (n : ℕ) → IsCounted name rows n → IsCounted name (counts_of name rows) n
named_alone name rows n (inl none) = inl (ap (counts_of name) none.0, none.1)
named_alone name rows n (inr one) = inr (one.0, ap (counts_of name) one.1 ∙ rw (same_name name) refl)

-- and stays alone
pub alone_so : (name : List ℕ) (before after : List Row) (n top : ℕ) → Recounts name before top after → IsCounted name before n → IsCounted name after top
alone_so name before after n top h (inl none) = inr (h.id, h.is ∙ ap (λ (rs : List Row). put_row (count_row name h.id top) (without_rowid h.id rs)) none.0)
alone_so name before after n top h (inr one) = inr (h.id, h.is ∙ ap (put_row (count_row name h.id top)) (go (has_rowid h.id (count_row name one.0 n)) refl))
  where
    kept : without_rowid h.id before ≡ cond (not (has_rowid h.id (count_row name one.0 n))) (count_row name one.0 n ∷ []) []
    kept = ap (without_rowid h.id) one.1

    go : (b : Bool) → has_rowid h.id (count_row name one.0 n) ≡ b → without_rowid h.id before ≡ []
    go true e = kept ∙ ap (λ b. cond (not b) (count_row name one.0 n ∷ []) []) e
    go false e =
        let left : without_rowid h.id before ≡ count_row name one.0 n ∷ [] = kept ∙ ap (λ b. cond (not b) (count_row name one.0 n ∷ []) []) e in
        let some : counts_of name (without_rowid h.id before) ≡ count_row name one.0 n ∷ [] = ap (counts_of name) left ∙ rw (same_name name) refl in
        absurd (let both = sym some ∙ h.none in cc)

-- ---- what stays where one row is taken out by its id

commuted : (p q : Row → Bool) (rows : List Row) → filter p (filter q rows) ≡ filter q (filter p rows)
commuted p q [] = refl
commuted p q (r ∷ rows) = go (p r) (q r) refl refl (commuted p q rows)
  where
    go : (a b : Bool) → p r ≡ a → q r ≡ b → filter p (filter q rows) ≡ filter q (filter p rows)
        → filter p (cond b (r ∷ filter q rows) (filter q rows)) ≡ filter q (cond a (r ∷ filter p rows) (filter p rows))
    go true true e f rest = rw (e, f) (ap (λ (rs : List Row). r ∷ rs) rest)
    go true false e f rest = rw f rest
    go false true e f rest = rw e rest
    go false false e f rest = rest

kept_under : (p q : Row → Bool) (rows : List Row) → ((x : Row) → Has rows x → q x ≡ true → p x ≡ true) → filter q (filter p rows) ≡ filter q rows
kept_under p q [] keeps = refl
kept_under p q (r ∷ rows) keeps = go (q r) (p r) refl refl (kept_under p q rows (λ x has. keeps x (inr has)))
  where
    go : (a b : Bool) → q r ≡ a → p r ≡ b → filter q (filter p rows) ≡ filter q rows
        → filter q (cond b (r ∷ filter p rows) (filter p rows)) ≡ cond a (r ∷ filter q rows) (filter q rows)
    go true true e f rest = rw e (ap (λ (rs : List Row). r ∷ rs) rest)
    go true false e f rest = absurd (let always = keeps r (inl refl) e in let both = sym f ∙ always in cc)
    go false true e f rest = rw e rest
    go false false e f rest = rest

first_has : (p : Row → Bool) (rows few : List Row) (x : Row) → filter p rows ≡ x ∷ few → Has rows x
first_has p [] few x is = absurd cc
first_has p (r ∷ rows) few x is = go (p r) is (first_has p rows few x)
  where
    go : (b : Bool) → cond b (r ∷ filter p rows) (filter p rows) ≡ x ∷ few → (filter p rows ≡ x ∷ few → Has rows x) → Has (r ∷ rows) x
    go true e rest = inl (sym (ap (λ (rs : List Row). get_or rs 0 []) e))
    go false e rest = inr (rest e)

is_equal : (o : Ordering) → is_eq o ≡ true → o ≡ Equal
is_equal Less h = absurd cc
is_equal Equal h = refl
is_equal Greater h = absurd cc

-- where none has the id, all stay
none_gone : (id : ℤ) (rows : List Row) → AllByRecursion (λ r. has_rowid id r ≡ false) rows → without_rowid id rows ≡ rows
none_gone id [] none = refl
none_gone id (r ∷ rows) none = rw none.0 (ap (λ (rs : List Row). r ∷ rs) (none_gone id rows none.1))

not_taken : (new : Row) (rows : List Row) → is_taken rows new ≡ false → AllByRecursion (λ r. is_eq (value_cmp (rowid r) (rowid new)) ≡ false) rows
not_taken new [] free = tt
not_taken new (r ∷ rows) free = go (is_eq (value_cmp (rowid r) (rowid new))) refl free (not_taken new rows)
  where
    go : (b : Bool) → is_eq (value_cmp (rowid r) (rowid new)) ≡ b → (b || is_taken rows new) ≡ false
        → (is_taken rows new ≡ false → AllByRecursion (λ r. is_eq (value_cmp (rowid r) (rowid new)) ≡ false) rows)
        → AllByRecursion (λ r. is_eq (value_cmp (rowid r) (rowid new)) ≡ false) (r ∷ rows)
    go true e h rest = absurd cc
    go false e h rest = (e, rest h)

is_free : (b : Bool) → (not b && true) ≡ true → b ≡ false
is_free true h = absurd cc
is_free false h = refl

-- the count's row is replaced
pub replaced_so : (name : List ℕ) (before after : List Row) (id : ℤ) (n top : ℕ) → counts_of name before ≡ count_row name id n ∷ []
    → after ≡ put_row (count_row name id top) (without_rowid id before) → Recounts name before top after
replaced_so name before after id n top one is = record {
  id = id;
  is = is;
  none = commuted (is_named name) (λ r. not (has_rowid id r)) before ∙ ap (filter (λ r. not (has_rowid id r))) one ∙ rw (same_id id) refl;
  spared = λ other apart table. kept_under (λ r. not (has_rowid id r)) (is_named other) before (keeps other apart table);
}
  where
    keeps : (other : List ℕ) → AreApart name other → HaveOwnIds before → (x : Row) → Has before x → is_named other x ≡ true → not (has_rowid id x) ≡ true
    keeps other apart table x has named = go (has_rowid id x) refl
      where
        go : (b : Bool) → has_rowid id x ≡ b → not b ≡ true
        go true e =
            let same : x ≡ count_row name id n = table x (count_row name id n) has (first_has (is_named name) before [] _ one) (is_equal _ e) in
            absurd (let other_name = sym named ∙ ap (is_named other) same ∙ apart in cc)
        go false e = refl

-- or one comes to the others
pub added_so : (name : List ℕ) (before after : List Row) (id : ℤ) (top : ℕ) → counts_of name before ≡ []
    → are_fresh before (count_row name id top ∷ []) ≡ true → after ≡ put_row (count_row name id top) before → Recounts name before top after
added_so name before after id top none fresh is =
    let free = not_taken (count_row name id top) before (is_free (is_taken before (count_row name id top)) fresh) in
    let all = none_gone id before free in
    record {
      id = id;
      is = is ∙ ap (put_row (count_row name id top)) (sym all);
      none = ap (counts_of name) all ∙ none;
      spared = λ other apart table. ap (counts_of other) all;
    }
