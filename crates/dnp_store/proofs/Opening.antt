-- What the queries of an open show of every store's tables, and of a queue's lanes.
use Rattle.std.proofs.Common.{◌≡◌, inl, inr, ℕ, ◌+◌, ℤ, pos, negsuc, false, List, [], ◌∷◌, map, flat_map, length, codes, get_or, Some, None, Ok, Err, Result, IfOk, refl, sym, ap, subst, subst₂, ◌∙◌, arith, IsPermutation}
use Rattle.std.specs.Prelude.{Vec, ◌↔◌}
use Rattle.std.specs.declared.alloc.Global.{Global}
use Rattle.std.specs.List.{AllByRecursion}
use Rattle.std.proofs.lemmas.Simd.{map-map}
use Rattle.std.proofs.lemmas.List.{length-map}
use Rattle.std.proofs.lemmas.List.Sorted.{IsPermutation-sym, length_permutation}
use Rattle.sqlite_tied.specs.Compute.{everything}
use Rattle.sqlite_trees.proofs.ListLemmas.{all-permutation, pull_back}
use Rattle.sqlite.specs.Collation.TheVariants.{Binary}
use Rattle.sqlite.specs.Command.TheVariants.{Select}
use Rattle.sqlite.specs.Program.{overlay}
use Rattle.sqlite.specs.Query.{Query, inner, end, IsAnswer, output, Output}
use Rattle.sqlite.specs.Term.{Term, lit, col, eval_all}
use Rattle.sqlite.specs.declared.types.Value.{Value}
use Rattle.sqlite.specs.declared.types.Value.TheVariants.{Null, Int, Text}
use Rattle.sqlite.specs.Order.{Row, column}
use Rattle.sqlite.specs.Tree.{Trees}
use Rattle.sqlite.specs.Schema.{Schema}
use Rattle.sqlite.specs.Given.{IsPlain}
use Rattle.sqlite.specs.Listing.{understood, reads_listing}
use Rattle.sqlite.specs.State.{State, Shown, ShowsRows}
use Rattle.sqlite.specs.Clock.{timed}
use Rattle.sqlite.proofs.Callers.{command_of, reads_as, one_permutation}
use Rattle.dnp_store.specs.Tables.{count_row, sequence, IsCounted}
use Rattle.dnp_store.specs.QueueTables.{queue_schema, lanes_columns, Figures, no_figures, figures_rows, IsForm1}
use Rattle.dnp_store.specs.PairTables.{IsForm}
use Rattle.dnp_store.specs.steps.Shown.{ShowsForm, ShowsForm1, ShowsFigures, ShowNine, AreNine, ShowsCount}
use Rattle.dnp_store.specs.Texts.{lanes_select, rows_select}
use Rattle.dnp_store.specs.declared.queue_side.QueueSide.TheVariants.{First}
use Rattle.dnp_store.specs.declared.store_kind.StoreKind.{StoreKind}
use Rattle.dnp_store.specs.declared.store_kind.StoreKind.TheVariants.{Queue, Journal, Book}
use Rattle.dnp_store.specs.steps.Stores.{More, Reads, schema_for}
use Rattle.dnp_store.proofs.Rows.{IsTyped, form_columns, shown_lane, typed_form, typed_lanes, typed_counts, form_row, lanes_rows, count_row_is}

-- ---- a query over one table

abbrev pub query : ℕ → List Term → Query
query tree project = record {
  from = inner tree end;
  filter = [];
  group = None;
  project = project;
  distinct = false;
  collations = [];
  order = (col 1 0, record { collation = Binary; descending = false }) ∷ [];
  limit = lit (Int (negsuc 0));
  offset = lit (Int (pos 0));
}

pub each_one : {X Y : Type 0} (f : X → Y) (xs : List X) → flat_map (λ x. f x ∷ []) xs ≡ map f xs
each_one f [] = refl
each_one f (x ∷ xs) = ap (λ ys. f x ∷ ys) (each_one f xs)

abbrev pub shown_by : List Term → Row → Row
shown_by project r = eval_all project ([] ∷ r ∷ [])

-- the rows of the table, in some order
pub listed : (tree : ℕ) (project : List Term) (db : Trees) (rows : List Row) → overlay db [] tree ≡ db tree → IsAnswer (query tree project) (overlay db []) [] rows
    → (rs : List Row) × IsPermutation (db tree) rs × (rows ≡ map (shown_by project) rs)
listed tree project db rows same a =
    let made : Row → Output = λ r. (eval_all (col 1 0 ∷ []) ([] ∷ r ∷ []), shown_by project r) in
    let staged : a.staged ≡ map (λ r. [] ∷ r ∷ []) (db tree) = a.grouped ∙ each_one (λ r. [] ∷ r ∷ []) (overlay db [] tree)
    ∙ ap (map (λ r. [] ∷ r ∷ [])) same in
    let kept : a.kept ≡ map made (db tree) = a.distinct ∙ ap (map (output (query tree project))) staged
    ∙ map-map (output (query tree project)) (λ r. [] ∷ r ∷ []) (db tree) in
    let back = pull_back made a.kept a.ordered a.same (db tree) kept in
    (back.0, back.1, a.shown ∙ ap (map (λ (o : Output). o.1)) back.2 ∙ map-map (λ (o : Output). o.1) made back.0)

-- ---- what the texts are

abbrev pub form_query : List ℕ
form_query = codes "SELECT rowid, number FROM form ORDER BY rowid"

abbrev pub lanes_query : List ℕ
lanes_query = lanes_select First

abbrev pub count_query : List ℕ
count_query = codes "SELECT rowid, name, seq FROM sqlite_sequence ORDER BY rowid"

abbrev pub queue_query : List ℕ
queue_query = rows_select First

abbrev pub form_terms : List Term
form_terms = col 1 0 ∷ col 1 1 ∷ []

abbrev pub lanes_terms : List Term
lanes_terms = col 1 0 ∷ col 1 2 ∷ col 1 3 ∷ col 1 4 ∷ []

abbrev pub count_terms : List Term
count_terms = col 1 0 ∷ col 1 1 ∷ col 1 2 ∷ []

abbrev pub queue_terms : List Term
queue_terms = col 1 0 ∷ col 1 2 ∷ col 1 3 ∷ col 1 4 ∷ col 1 5 ∷ col 1 6 ∷ []

pub form_is : (kind : StoreKind) (f r : List Term) (m : More kind)
    → (command_of (understood (schema_for kind f r m) form_query) ≡ Select (record { lets = []; body = query 0 form_terms })
    (codes "rowid" ∷ codes "number" ∷ [])) × (reads_listing (schema_for kind f r m) form_query ≡ false)
unfolding understood everything
form_is kind f r m = (refl, refl)

pub form_plain : (kind : StoreKind) (f r : List Term) (m : More kind) → IsPlain (understood (schema_for kind f r m) form_query)
unfolding understood everything
form_plain kind f r m = (refl, refl)

pub lanes_is : (f q l : List Term) → (command_of (understood (queue_schema f q l) lanes_query) ≡ Select (record { lets = []; body = query 3 lanes_terms })
    (codes "lane" ∷ codes "cap" ∷ codes "lost" ∷ codes "raised" ∷ [])) × (reads_listing (queue_schema f q l) lanes_query ≡ false)
unfolding understood everything
lanes_is f q l = (refl, refl)

pub lanes_plain : (f q l : List Term) → IsPlain (understood (queue_schema f q l) lanes_query)
unfolding understood everything
lanes_plain f q l = (refl, refl)

pub count_is : (kind : StoreKind) (f r : List Term) (m : More kind)
    → (command_of (understood (schema_for kind f r m) count_query) ≡ Select (record { lets = []; body = query 2 count_terms })
    (codes "rowid" ∷ codes "name" ∷ codes "seq" ∷ [])) × (reads_listing (schema_for kind f r m) count_query ≡ false)
unfolding understood everything
count_is Queue f r m = (refl, refl)
count_is Journal f r m = (refl, refl)
count_is Book f r m = (refl, refl)

pub count_plain : (kind : StoreKind) (f r : List Term) (m : More kind) → IsPlain (understood (schema_for kind f r m) count_query)
unfolding understood everything
count_plain Queue f r m = (refl, refl)
count_plain Journal f r m = (refl, refl)
count_plain Book f r m = (refl, refl)

pub queue_is : (f q l : List Term) → (command_of (understood (queue_schema f q l) queue_query) ≡ Select (record { lets = []; body = query 1 queue_terms })
    (codes "id" ∷ codes "lane" ∷ codes "point" ∷ codes "flags" ∷ codes "value" ∷ codes "time" ∷ [])) × (reads_listing (queue_schema f q l) queue_query ≡ false)
unfolding understood everything
queue_is f q l = (refl, refl)

pub queue_plain : (f q l : List Term) → IsPlain (understood (queue_schema f q l) queue_query)
unfolding understood everything
queue_plain f q l = (refl, refl)

-- a plain query changes nothing
pub unchanged : (sql : List ℕ) (old new : State) (schema : Schema) (rows : List Row) → old.now.schema ≡ schema → IsPlain (understood schema sql)
    → Shown sql [] old new rows → new.now ≡ old.now
unfolding Shown
unchanged sql old new schema rows has plain h =
    let none = (subst IsPlain (ap (λ s. understood s sql) (sym has) ∙ h.1.is) plain).0 in
    let it = subst (ShowsRows old new sql h.0 (timed [] h.0.formats h.1.now) rows) none h.2 in
    it.3.0.now_is

-- ---- what the queries say of the trees

one_row : (rs : List Row) (d : Row) → length rs ≡ 1 → rs ≡ get_or rs 0 d ∷ []
one_row [] d long = absurd (omega arith)
one_row (r ∷ []) d long = refl
one_row (r ∷ s ∷ rs) d long = absurd (omega arith)

-- the rows of a table, of which one is shown, are that one
pub alone : (f : Row → Row) (db rs : List Row) (rows : List Row) → IsPermutation db rs → rows ≡ map f rs → length rows ≡ 1
    → (r : Row) × (db ≡ r ∷ []) × (get_or rows 0 [] ≡ f r)
alone f db rs rows perm is long =
    let many : length rs ≡ 1 = sym (length-map rs f) ∙ ap length (sym is) ∙ long in
    let r = get_or rs 0 [] in
    let only : rs ≡ r ∷ [] = one_row rs [] many in (
      r,
      one_permutation r db (subst (λ xs. IsPermutation xs db) only (IsPermutation-sym db rs perm)),
      ap (λ xs. get_or xs 0 []) (is ∙ ap (map f) only),
    )

pub none_left : (db rs : List Row) → IsPermutation db rs → length rs ≡ 0 → db ≡ []
none_left [] rs perm none = refl
none_left (r ∷ db) rs perm none = absurd (let h = length_permutation (r ∷ db) rs perm in omega arith)

module _ (old new : State) (rows : List Row) where
  -- under any schema that begins with `form`
  pub reads_form_in : (schema : Schema) (id n : ℤ)
      → (command_of (understood schema form_query) ≡ Select (record { lets = []; body = query 0 form_terms }) (codes "rowid" ∷ codes "number" ∷ []))
      × (reads_listing schema form_query ≡ false) → IsPlain (understood schema form_query)
      → AllByRecursion (IsTyped None form_columns) (old.now.trees 0) → Shown form_query [] old new rows
      → length rows ≡ 1 → column (get_or rows 0 []) 0 ≡ Int id → column (get_or rows 0 []) 1 ≡ Int n → old.now.schema ≡ schema
      → (new.now ≡ old.now) × (old.now.trees 0 ≡ (Int id ∷ Int n ∷ []) ∷ [])
  reads_form_in schema id n is plain types shown one id_at number_at has =
      let read = reads_as form_query [] old new schema has _ is.0 plain is.1 rows shown in
      let got = listed 0 form_terms old.now.trees rows refl (read.answer Null) in
      let at = alone (shown_by form_terms) (old.now.trees 0) got.0 rows got.1 got.2 one in
      let typed = subst (AllByRecursion (IsTyped None form_columns)) at.1 types in
      let id_is : column at.0 0 ≡ Int id = ap (λ r. column r 0) (sym at.2) ∙ id_at in
      let number : column at.0 1 ≡ Int n = ap (λ r. column r 1) (sym at.2) ∙ number_at in
      (unchanged form_query old new schema rows has plain shown, at.1 ∙ ap (λ r. r ∷ []) (form_row at.0 id n typed.0 number id_is))

  pub reads_form : (id : ℤ) → Shown form_query [] old new rows → ShowsForm1 rows id → (kind : StoreKind) → Reads kind old new (λ db. IsForm1 (db 0))
  reads_form id shown one kind f r m sound has =
      let it = reads_form_in (schema_for kind f r m) id (pos 1) (form_is kind f r m) (form_plain kind f r m) (typed_form kind old.now f r m has sound) shown
      one.one one.id_is one.number has in
      (it.0, (id, it.1))

  pub reads_number : (n : ℕ) → Shown form_query [] old new rows → ShowsForm rows n → Reads Queue old new (λ db. IsForm n (db 0))
  reads_number n shown one f r m sound has =
      let it = reads_form_in (schema_for Queue f r m) one.id (pos n) (form_is Queue f r m) (form_plain Queue f r m) (typed_form Queue old.now f r m has sound)
      shown one.one one.id_is one.number has in
      (it.0, (one.id, it.1))

  -- under any schema that has such a table in this tree
  pub reads_lanes_in : (schema : Schema) (tree : ℕ) (text : List ℕ) (figures : List Figures)
      → (command_of (understood schema text) ≡ Select (record { lets = []; body = query tree lanes_terms })
      (codes "lane" ∷ codes "cap" ∷ codes "lost" ∷ codes "raised" ∷ [])) × (reads_listing schema text ≡ false)
      → IsPlain (understood schema text) → overlay old.now.trees [] tree ≡ old.now.trees tree
      → AllByRecursion (IsTyped (Some 0) lanes_columns) (old.now.trees tree) → Shown text [] old new rows → AreNine figures → ShowNine rows figures
      → old.now.schema ≡ schema → (new.now ≡ old.now) × IsPermutation (figures_rows 0 figures) (old.now.trees tree)
  reads_lanes_in schema tree text figures is plain bare types shown nine shows has =
      let read = reads_as text [] old new schema has _ is.0 plain is.1 rows shown in
      let got = listed tree lanes_terms old.now.trees rows bare (read.answer Null) in
      let typed = all-permutation (IsTyped (Some 0) lanes_columns) (old.now.trees tree) got.0 got.1 types in
      let many : length got.0 ≡ length figures =
      sym (length-map got.0 shown_lane) ∙ ap length (sym got.2) ∙ shows.rows_nine ∙ sym nine.nine in
      let same : got.0 ≡ figures_rows 0 figures = lanes_rows got.0 0 figures typed many
      (λ k low. subst₂ (λ (n : ℕ) (xs : List Row). ShowsFigures (get_or xs k []) n (get_or figures k no_figures)) (zero-first k) got.2
      (shows.each k (omega (arith, nine.nine)))) in (
        unchanged text old new schema rows has plain shown,
        subst (λ xs. IsPermutation xs (old.now.trees tree)) same (IsPermutation-sym (old.now.trees tree) got.0 got.1),
      )
    where
      zero-first : (k : ℕ) → k ≡ 0 + k
      zero-first k = omega arith

  pub reads_lanes : (figures : List Figures) → Shown lanes_query [] old new rows → AreNine figures → ShowNine rows figures
      → Reads Queue old new (λ db. IsPermutation (figures_rows 0 figures) (db 3))
  reads_lanes figures shown nine shows f q l sound has =
      reads_lanes_in (queue_schema f q l) 3 lanes_query figures (lanes_is f q l) (lanes_plain f q l) refl (typed_lanes old.now f q l has sound) shown nine shows has

  pub reads_counts : Shown count_query [] old new rows → (kind : StoreKind)
      → Reads kind old new (λ db. (table : List ℕ) (n : ℕ) → ShowsCount table rows n ↔ IsCounted table (db 2) n)
  reads_counts shown kind f r m sound has =
      let read = reads_as count_query [] old new (schema_for kind f r m) has _ (count_is kind f r m).0
      (count_plain kind f r m) (count_is kind f r m).1 rows shown in
      let got = listed 2 count_terms old.now.trees rows refl (read.answer Null) in
      (unchanged count_query old new (schema_for kind f r m) rows has (count_plain kind f r m) shown, λ table n. (go got table n, back got table n))
    where
      go : ((rs : List Row) × IsPermutation (old.now.trees 2) rs × (rows ≡ map (shown_by count_terms) rs)) → (table : List ℕ) (n : ℕ)
          → ShowsCount table rows n → IsCounted table (old.now.trees 2) n
      go got table n (inl none) =
          inl (none_left (old.now.trees 2) got.0 got.1 (sym (length-map got.0 (shown_by count_terms)) ∙ ap length (sym got.2) ∙ none.0), none.1)
      go got table n (inr one) =
          let at = alone (shown_by count_terms) (old.now.trees 2) got.0 rows got.1 got.2 one.1 in
          let typed = subst (AllByRecursion (IsTyped None sequence.columns)) at.1 (typed_counts kind old.now f r m has sound) in
          let id_is : column at.0 0 ≡ Int one.0 = ap (λ r. column r 0) (sym at.2) ∙ one.2.id_is in
          let name : column at.0 1 ≡ Text table = ap (λ r. column r 1) (sym at.2) ∙ one.2.name in
          let count : column at.0 2 ≡ Int (pos n) = ap (λ r. column r 2) (sym at.2) ∙ one.2.count in
          inr (one.0, at.1 ∙ ap (λ r. r ∷ []) (count_row_is at.0 one.0 (pos n) table typed.0 id_is name count))

      back : ((rs : List Row) × IsPermutation (old.now.trees 2) rs × (rows ≡ map (shown_by count_terms) rs)) → (table : List ℕ) (n : ℕ)
          → IsCounted table (old.now.trees 2) n → ShowsCount table rows n
      back got table n (inl none) =
          let many = length_permutation (old.now.trees 2) got.0 got.1 in
          inl (omega (arith, many, ap length got.2, length-map got.0 (shown_by count_terms), ap length none.0), none.1)
      back got table n (inr one) =
          let all : got.0 ≡ count_row table one.0 n ∷ [] =
          one_permutation (count_row table one.0 n) got.0 (subst (λ xs. IsPermutation xs got.0) one.1 got.1) in
          subst (λ xs. ShowsCount table xs n) (sym (got.2 ∙ ap (map (shown_by count_terms)) all))
          (inr (one.0, refl, record { id_is = refl; name = refl; count = refl }))

pub counts_if : {E : Type 0} (old new : State) (r : Result (Vec (List Value) Global) E) → IfOk r (λ rows. Shown count_query [] old new rows.items)
    → IfOk r (λ rows. (kind : StoreKind) → Reads kind old new (λ db. (table : List ℕ) (n : ℕ) → ShowsCount table rows.items n ↔ IsCounted table (db 2) n))
counts_if old new (Ok rows) shown = reads_counts old new rows.items shown
counts_if old new (Err e) shown = tt
