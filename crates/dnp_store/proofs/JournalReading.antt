-- What queries on a journal's tables show.
use Rattle.std.proofs.Common.{◌≡◌, inl, ℕ, suc, ◌<◌, pos, Bool, true, false, cond, nat_lt, List, [], ◌∷◌, ◌++◌, map, flat_map, filter, take, codes, Option, Some, None, Ok, Err, Result, refl, sym, ap, ap₂, subst, ◌∙◌, arith, Less, int_cmp, IsPermutation}
use Rattle.std.specs.List.{list_all}
use Rattle.std.specs.Ordering.{is_gt}
use Rattle.std.proofs.lemmas.Cmp.{on_total}
use Rattle.std.proofs.lemmas.Int.{ints}
use Rattle.std.proofs.lemmas.List.{take-map}
use Rattle.std.proofs.lemmas.List.Sorted.{IsPermutation-trans, IsPermutation-map}
use Rattle.sqlite_tied.specs.Compute.{everything}
use Rattle.sqlite_keyed.proofs.SortLemmas.{sorted_unique}
use Rattle.sqlite_trees.proofs.ListLemmas.{pull_back}
use Rattle.sqlite_keyed.proofs.ListLemmas.{map-map, filter-map, ascending-filter, ascending-map, ascending_weaker, IsPermutation-filter}
use Rattle.sqlite.specs.Command.TheVariants.{Select}
use Rattle.sqlite.specs.Program.{overlay}
use Rattle.sqlite.specs.Query.{Query, inner, end, IsAnswer, output, output_cmp, page, Output}
use Rattle.sqlite.specs.Term.{Term, lit, col, op2, holds}
use Rattle.sqlite_value.specs.declared.keys.Key.{Key}
use Rattle.sqlite_value.proofs.OrderLemmas.{value_cmp-Int}
use Rattle.sqlite_sql.specs.declared.ops.BinaryOp.TheVariants.{Compare}
use Rattle.sqlite_sql.specs.declared.ops.CompareOp.TheVariants.{Gt}
use Rattle.sqlite_sql.proofs.QueryLemmas.{key_cmp_total}
use Rattle.sqlite.specs.Ops.{binary, is_true}
use Rattle.sqlite.specs.Collation.TheVariants.{Binary}
use Rattle.sqlite.specs.declared.types.Value.TheVariants.{Null, Int}
use Rattle.sqlite.specs.Order.{Row, column, value_cmp}
use Rattle.sqlite.specs.Tree.{IsAscending, IsTable, rowid}
use Rattle.sqlite.specs.Listing.{understood, reads_listing}
use Rattle.sqlite.specs.Given.{IsPlain}
use Rattle.std.specs.Prelude.{Vec, IsTrue, IfOk, IfErr, OnOk}
use Rattle.std.specs.declared.alloc.Global.{Global}
use Rattle.sqlite.specs.declared.error.Error.{Error}
use Rattle.sqlite.specs.Schema.{Schema}
use Rattle.sqlite.specs.Effect.{Database}
use Rattle.sqlite.specs.Clock.{timed}
use Rattle.sqlite.specs.State.{State, Shown, ShowsRows, IsUnchanged, FailsToQuery}
use Rattle.dnp_store.specs.Texts.{journal_select}
use Rattle.dnp_store.specs.JournalKept.{JournalStands}
use Rattle.dnp_store.proofs.Reading.{failed_keeps}
use Rattle.sqlite.proofs.Callers.{command_of, reads_as}
use Rattle.dnp_eventbuf.specs.declared.numbered.Numbered.{Numbered}
use Rattle.dnp_eventbuf.specs.Archive.{Archive}
use Rattle.dnp_store.specs.Tables.{or_null}
use Rattle.dnp_store.specs.QueueTables.{Queued, queued_row, queued_cells, event_of}
use Rattle.dnp_store.specs.JournalTables.{journal_schema, IsJournal, moment, event_in}
use Rattle.dnp_store.specs.steps.JournalShown.{ShowsEvent, ShowEvents, ShowOver}
use Rattle.dnp_store.proofs.IdRows as id_rows
use Rattle.dnp_store.proofs.Tests.{truth_of}
use Rattle.dnp_store.proofs.JournalHolding.{kind_is, told}

-- ---- the events of rows

abbrev pub shown_row : Row → Row
shown_row r = column r 0 ∷ column r 2 ∷ column r 3 ∷ column r 4 ∷ column r 5 ∷ column r 6 ∷ []

pub moment_is : (t : Option ℕ) → moment (or_null t) ≡ t
moment_is None = refl
moment_is (Some t) = refl

shown_is : (r : Row) (e : Numbered) → ShowsEvent (shown_row r) e → event_in r ≡ e
shown_is r e h = rw (h.id_is, h.kind, h.index, h.flags, h.value, h.time, kind_is e.row.kind, moment_is e.row.time)

pub shown_are : (rs : List Row) (es : List Numbered) → ShowEvents (map shown_row rs) es → es ≡ map event_in rs
shown_are [] [] h = refl
shown_are [] (e ∷ es) h = absurd (let long = h.long in omega arith)
shown_are (r ∷ rs) [] h = absurd (let long = h.long in omega arith)
shown_are (r ∷ rs) (e ∷ es) h =
    ap₂ (λ (x : Numbered) xs. x ∷ xs) (sym (shown_is r e (h.each 0 (omega arith))))
    (shown_are rs es (record { long = (let long = h.long in omega arith); each = λ k low. h.each (suc k) (omega arith) }))

-- ---- rows over an id

abbrev pub over_text : List ℕ
over_text = journal_select

abbrev by_rowid : Key
by_rowid = record { collation = Binary; descending = false }

abbrev over_query : Query
over_query = record {
  from = inner 1 end;
  filter = op2 (Compare Gt Binary) (col 1 0) (col 0 0) ∷ [];
  group = None;
  project = col 1 0 ∷ col 1 2 ∷ col 1 3 ∷ col 1 4 ∷ col 1 5 ∷ col 1 6 ∷ [];
  distinct = false;
  collations = [];
  order = (col 1 0, by_rowid) ∷ [];
  limit = col 0 1;
  offset = lit (Int (pos 0));
}

abbrev names : List (List ℕ)
names = codes "id" ∷ codes "kind" ∷ codes "point" ∷ codes "flags" ∷ codes "value" ∷ codes "time" ∷ []

over_is : (f j : List Term) (m : Schema) → (command_of (understood (journal_schema f j m) over_text) ≡ Select (record { lets = []; body = over_query }) names)
    × (reads_listing (journal_schema f j m) over_text ≡ false)
unfolding understood everything
over_is f j m = (refl, refl)

pub over_plain : (f j : List Term) (m : Schema) → IsPlain (understood (journal_schema f j m) over_text)
unfolding understood everything
over_plain f j m = (refl, refl)

-- the row's id is over this one, as SQL compares them
abbrev pub is_over : ℕ → Row → Bool
is_over from row = list_all (holds ((Int (pos from) ∷ []) ∷ row ∷ [])) (op2 (Compare Gt Binary) (col 1 0) (col 0 0) ∷ [])

gt_is : (a b : ℕ) → is_gt (int_cmp (pos a) (pos b)) ≡ nat_lt b a
gt_is a b = grind (arith, ints)

gt_holds : (a b : ℕ) → is_true (binary (Compare Gt Binary) (Int (pos a)) (Int (pos b))) ≡ nat_lt b a
unfolding binary
gt_holds a b = truth_of (is_gt (value_cmp (Int (pos a)) (Int (pos b)))) ∙ ap is_gt (value_cmp-Int (pos a) (pos b)) ∙ gt_is a b

pub over_holds : (from : ℕ) (x : Queued) → is_over from (queued_row x) ≡ nat_lt from x.id
over_holds from x = go (is_true (binary (Compare Gt Binary) (Int (pos x.id)) (Int (pos from)))) (gt_holds x.id from)
  where
    go : (b : Bool) → b ≡ nat_lt from x.id → list_all (λ (c : Bool). c) (b ∷ []) ≡ nat_lt from x.id
    go true h = h
    go false h = h

pub overs : (from : ℕ) (xs : List Queued) → filter (is_over from) (map queued_row xs) ≡ map queued_row (filter (λ (x : Queued). nat_lt from x.id) xs)
overs from [] = refl
overs from (x ∷ xs) = rw (over_holds from x) (go (nat_lt from x.id) (overs from xs))
  where
    go : (b : Bool) → filter (is_over from) (map queued_row xs) ≡ map queued_row (filter (λ (y : Queued). nat_lt from y.id) xs)
        → cond b (queued_row x ∷ filter (is_over from) (map queued_row xs)) (filter (is_over from) (map queued_row xs))
        ≡ map queued_row (cond b (x ∷ filter (λ (y : Queued). nat_lt from y.id) xs) (filter (λ (y : Queued). nat_lt from y.id) xs))
    go true rest = ap (λ l. queued_row x ∷ l) rest
    go false rest = rest

-- a loop over one table passes on the rows that the test lets through
pub passes_on : {X Y : Type 0} (p : X → Bool) (f : X → Y) (xs : List X) → flat_map (λ x. cond (p x) (f x ∷ []) []) xs ≡ map f (filter p xs)
passes_on p f [] = refl
passes_on p f (x ∷ xs) = elim (p x) as (λ b. cond b (f x ∷ []) [] ++ flat_map (λ y. cond (p y) (f y ∷ []) []) xs ≡ map f (cond b (x ∷ filter p xs) (filter p xs))) [
  | true ↦ ap (λ l. f x ∷ l) (passes_on p f xs)
  | false ↦ passes_on p f xs
]

abbrev pub over_params : ℕ → ℕ → Row
over_params from most = Int (pos from) ∷ Int (pos most) ∷ []

made : Row → Output
made r = (rowid r ∷ [], shown_row r)

-- the first of the rows over the id, in some order
pub over_listed : (old new : State) (f j : List Term) (m : Schema) (from most : ℕ) (rows : List Row) → old.now.schema ≡ journal_schema f j m
    → Shown over_text (over_params from most) old new rows
    → (rs : List Row) × IsPermutation (filter (is_over from) (old.now.trees 1)) rs × (rows ≡ map shown_row (take most rs))
unfolding made
over_listed old new f j m from most rows has h =
    let params = over_params from most in
    let got = reads_as over_text params old new (journal_schema f j m) has _ (over_is f j m).0 (over_plain f j m) (over_is f j m).1 rows h in
    let a : IsAnswer over_query (overlay old.now.trees []) params rows = got.answer Null in
    let left = filter (is_over from) (old.now.trees 1) in
    let staged : a.staged ≡ map (λ r. params ∷ r ∷ []) left = a.grouped ∙ passes_on (is_over from) (λ r. params ∷ r ∷ []) (old.now.trees 1) in
    let kept : a.kept ≡ map made left = a.distinct ∙ ap (map (output over_query)) staged ∙ map-map (output over_query) (λ r. params ∷ r ∷ []) left in
    let back = pull_back made a.kept a.ordered a.same left kept in (
      back.0,
      back.1,
      a.shown ∙ ap (λ all. page over_query params (map (λ (o : Output). o.1) all)) back.2 ∙ ap (take most) (map-map (λ (o : Output). o.1) made back.0)
          ∙ take-map shown_row most back.0,
    )

pub over_shows : (old new : State) (f j : List Term) (m : Schema) (xs : List Queued) (from most : ℕ) (rows : List Row) → old.now.schema ≡ journal_schema f j m
    → IsPermutation (map queued_row xs) (old.now.trees 1) → IsAscending (λ x y. x.id < y.id) xs → Shown over_text (over_params from most) old new rows
    → rows ≡ take most (map shown_row (filter (is_over from) (map queued_row xs)))
unfolding made
over_shows old new f j m xs from most rows has same rise h =
    let params = over_params from most in
    let got = reads_as over_text params old new (journal_schema f j m) has _ (over_is f j m).0 (over_plain f j m) (over_is f j m).1 rows h in
    let a : IsAnswer over_query (overlay old.now.trees []) params rows = got.answer Null in
    let all = map queued_row xs in
    let left = filter (is_over from) (old.now.trees 1) in
    let want = filter (is_over from) all in
    let staged : a.staged ≡ map (λ r. params ∷ r ∷ []) left = a.grouped ∙ passes_on (is_over from) (λ r. params ∷ r ∷ []) (old.now.trees 1) in
    let kept : a.kept ≡ map made left = a.distinct ∙ ap (map (output over_query)) staged ∙ map-map (output over_query) (λ r. params ∷ r ∷ []) left in
    let places : IsPermutation (map made want) (map made left) = IsPermutation-map made want left (IsPermutation-filter (is_over from) all (old.now.trees 1) same) in
    let ordered_so : IsPermutation (map made want) a.ordered =
    IsPermutation-trans (map made want) (map made left) a.ordered places (subst (λ k. IsPermutation k a.ordered) kept a.same) in
    let table : IsTable all = id_rows.is_table (λ (y : Queued). y.id) queued_cells xs rise in
    let rises : IsAscending (λ x y. output_cmp over_query x y ≡ Less) (map made want) =
    ascending-map _ made want (ascending_weaker (λ x y. value_cmp (rowid x) (rowid y) ≡ Less) (λ x y. output_cmp over_query (made x) (made y) ≡ Less)
    (λ x y e. rw e) want (ascending-filter _ (is_over from) all table)) in
    let ordered : a.ordered ≡ map made want = sorted_unique (output_cmp over_query) (on_total (λ (o : Output). o.0) (key_cmp_total (by_rowid ∷ []) 0))
    (map made want) a.ordered rises ordered_so a.sorted in
    a.shown ∙ ap (λ all. page over_query params (map (λ (o : Output). o.1) all)) ordered ∙ ap (take most) (map-map (λ (o : Output). o.1) made want)

pub shows_over : (old new : State) (a : Archive) (from most : ℕ) (rows : List Row) → IsJournal old.now a
    → Shown over_text (over_params from most) old new rows → ShowOver rows a from most
shows_over old new a from most rows db h events shows =
    let holds = db.holds in
    let xs = holds.logged in
    let few = filter (λ (x : Queued). nat_lt from x.id) xs in
    let is = over_shows old new db.form_checks db.journal_checks db.more xs from most rows db.schema holds.logged_is holds.rise h in
    let here : rows ≡ map shown_row (take most (map queued_row few)) =
    is ∙ ap (λ l. take most (map shown_row l)) (overs from xs) ∙ take-map shown_row most (map queued_row few) in
    let events_are : events ≡ map event_in (take most (map queued_row few)) =
    shown_are (take most (map queued_row few)) events (subst (λ r. ShowEvents r events) here shows) in
    events_are ∙ sym (take-map event_in most (map queued_row few)) ∙ ap (take most) (told few)
    ∙ ap (take most) (sym (filter-map (λ (x : Numbered). nat_lt from x.id) event_of xs))
    ∙ ap (λ (es : List Numbered). take most (filter (λ (x : Numbered). nat_lt from x.id) es)) (sym holds.rows)

-- ---- a query that changes nothing

pub unchanged_by : (sql : List ℕ) (ps : Row) (old new : State) (schema : Schema) (rows : List Row) → old.now.schema ≡ schema → IsPlain (understood schema sql)
    → Shown sql ps old new rows → IsUnchanged old new
unfolding Shown
unchanged_by sql ps old new schema rows has plain h =
    let none = (subst IsPlain (ap (λ s. understood s sql) (sym has) ∙ h.1.is) plain).0 in
    let it = subst (ShowsRows old new sql h.0 (timed ps h.0.formats h.1.now) rows) none h.2 in
    it.3

module _ (old new : State) (from most : ℕ) (ps : Row) (given : ps ≡ over_params from most) (settled : IsTrue old.is_open → old.now ≡ old.committed) where
  at_now : (a : Archive) → JournalStands old a → IsJournal old.now a
  at_now a stands = subst (λ (d : Database). IsJournal d a) (sym (settled stands.is_open)) stands.holds

  pub read_if : (r : Result (Vec Row Global) Error) → IfOk r (λ rows. Shown over_text ps old new rows.items)
      → IfOk r (λ rows. (a : Archive) → JournalStands old a → ShowOver rows.items a from most)
  read_if (Ok rows) h =
      λ a stands. shows_over old new a from most rows.items (at_now a stands) (subst (λ (p : Row). Shown over_text p old new rows.items) given h)
  read_if (Err e) h = tt

  stays : (rows : List Row) (a : Archive) → JournalStands old a → Shown over_text ps old new rows → IsUnchanged old new
  stays rows a stands h =
      let db = at_now a stands in
      unchanged_by over_text ps old new (journal_schema db.form_checks db.journal_checks db.more) rows db.schema (over_plain db.form_checks db.journal_checks db.more) h

  pub open_if : (r : Result (Vec Row Global) Error) → IfOk r (λ rows. Shown over_text ps old new rows.items)
      → OnOk r ((a : Archive) → JournalStands old a → IsTrue new.is_open)
  open_if (Ok rows) h = λ a stands. (stays rows.items a stands h).0.is_open
  open_if (Err e) h = tt

  pub same_if : (r : Result (Vec Row Global) Error) → IfOk r (λ rows. Shown over_text ps old new rows.items)
      → IfErr r (FailsToQuery over_text ps old new) → (a : Archive) → JournalStands old a → IsTrue new.is_open → new.committed ≡ old.committed
  same_if (Ok rows) h k a stands is_open = (stays rows.items a stands h).0.committed_is
  same_if (Err e) h k a stands is_open = (failed_keeps old new over_text ps e (inl k)).committed is_open
