-- What the queries of an open show of a queue's tables that hold lanes as they may be.
use Rattle.std.proofs.Common.{◌≡◌, ◌⊎◌, codes, false, inl, inr, ℕ, zero, suc, pos, ◌+◌, ◌<◌, ◌≤◌, List, [], ◌∷◌, map, length, get_or, Ok, Err, Result, IfOk, IsTrue, refl, sym, ap, subst, ◌∙◌, arith, Less, IsPermutation}
use Rattle.std.proofs.lemmas.List.{length-map}
use Rattle.std.specs.Prelude.{Vec}
use Rattle.std.specs.declared.alloc.Global.{Global}
use Rattle.std.specs.List.{AllByRecursion}
use Rattle.sqlite.specs.declared.error.Error.{Error}
use Rattle.sqlite.specs.declared.types.Value.{Value}
use Rattle.sqlite.specs.declared.types.Value.TheVariants.{Int, Null}
use Rattle.sqlite.specs.Given.{IsPlain}
use Rattle.sqlite.specs.Listing.{understood, reads_listing}
use Rattle.sqlite.specs.Order.{Row, value_cmp}
use Rattle.sqlite.specs.Schema.{Schema}
use Rattle.sqlite.specs.State.{State, FailsToQuery, IsTooLate, Shown}
use Rattle.sqlite.specs.Command.TheVariants.{Select}
use Rattle.sqlite.specs.Term.{Term}
use Rattle.sqlite.specs.Tree.{IsTable, Trees, rowid}
use Rattle.sqlite.proofs.Callers.{command_of, one_permutation, reads_as}
use Rattle.dnp_objects.specs.declared.limits.TheConstants.{MAX_ID}
use Rattle.dnp_eventbuf.specs.declared.plain.TheConstants.{MAX_CAPACITY}
use Rattle.dnp_eventbuf.specs.EventBuffer.{LaneState, EventBuffer}
use Rattle.dnp_store.specs.Faults.{is_unread}
use Rattle.dnp_store.specs.declared.queue_side.QueueSide.{QueueSide}
use Rattle.dnp_store.specs.declared.queue_side.QueueSide.TheVariants.{First}
use Rattle.dnp_store.specs.declared.store_kind.StoreKind.TheVariants.{Queue}
use Rattle.dnp_store.specs.Texts.{lanes_select, rows_select}
use Rattle.dnp_store.specs.QueueOpens.{MayStand}
use Rattle.dnp_store.specs.QueueTables.{Figures, Queued, figures_rows, no_figures, queue_schema, queued_cells, queued_row}
use Rattle.dnp_store.specs.PairTables.{Checks, IsForm, lanes_tree, pair_schema, rows_tree}
use Rattle.dnp_store.specs.steps.Pairs.{HasSide, HoldsAmong}
use Rattle.dnp_store.specs.steps.QueueDenied.{CanStand, SideStands}
use Rattle.dnp_store.specs.steps.Shown.{AreNine, LackNine, ShowsFigures, ShowsForm}
use Rattle.dnp_store.specs.steps.Stores.{schema_for}
use Rattle.dnp_store.proofs.IdRows as id_rows
use Rattle.dnp_store.proofs.IdRows.{is_less}
use Rattle.dnp_store.proofs.InOrder.{in_order}
use Rattle.dnp_store.proofs.Once.{one_figures}
use Rattle.dnp_store.proofs.Opening as one
use Rattle.dnp_store.proofs.Opening.{form_query, form_terms, lanes_terms, listed, query, queue_is, queue_plain, queue_terms, shown_by, unchanged}
use Rattle.dnp_store.proofs.PairReading.{form_is, form_plain, lanes_is, lanes_plain, rows_is, rows_plain}
use Rattle.dnp_store.proofs.PairSchema.{lanes_read, rows_read}
use Rattle.dnp_store.proofs.QueueRestoring.{can_stand}
use Rattle.dnp_store.proofs.Restoring.{shown_queued}
use Rattle.dnp_store.proofs.Rows.{shown_lane}
use Rattle.dnp_store.proofs.Unread.{means_nothing}

-- ---- the figures of the lanes

-- their rows are a table
over : (number next : ℕ) (fs : List Figures) (r : Row) → number < next
    → AllByRecursion (λ (x : Row). value_cmp (Int (pos number)) (rowid x) ≡ Less) (figures_rows next fs)
over number next [] r less = tt
over number next (f ∷ fs) r less = (is_less number next less, over number (next + 1) fs r (omega (arith, less)))

figures_table : (number : ℕ) (fs : List Figures) → IsTable (figures_rows number fs)
figures_table number [] = tt
figures_table number (f ∷ fs) = (over number (number + 1) fs [] (omega arith), figures_table (number + 1) fs)

figures_long : (number : ℕ) (fs : List Figures) → length (figures_rows number fs) ≡ length fs
figures_long number [] = refl
figures_long number (f ∷ fs) = ap suc (figures_long (number + 1) fs)

-- each of them shows its lane's
figures_each : (number : ℕ) (fs : List Figures) (k : ℕ) → k < length fs
    → ShowsFigures (get_or (map shown_lane (figures_rows number fs)) k []) (number + k) (get_or fs k no_figures)
figures_each number [] k low = absurd (omega (arith, low))
figures_each number (f ∷ fs) zero low = record {
  lane = ap (λ (n : ℕ). Int (pos n)) (let e : number ≡ number + 0 = omega arith in e);
  capacity = refl;
  lost = refl;
  raised = refl;
}
figures_each number (f ∷ fs) (suc k) low =
    subst (λ (n : ℕ). ShowsFigures (get_or (map shown_lane (figures_rows (number + 1) fs)) k []) n (get_or fs k no_figures))
    (let e : number + 1 + k ≡ number + suc k = omega arith in e) (figures_each (number + 1) fs k (omega (arith, low)))

-- so nine of them lack none
not_lacking : (fs : List Figures) → AreNine fs → LackNine (map shown_lane (figures_rows 0 fs)) → ⊥
not_lacking fs nine (inl long) = long (length-map (figures_rows 0 fs) shown_lane ∙ figures_long 0 fs ∙ nine.nine)
not_lacking fs nine (inr none) =
    none.2 (get_or fs none.0 no_figures)
    (subst (λ (n : ℕ). ShowsFigures (get_or (map shown_lane (figures_rows 0 fs)) none.0 []) n (get_or fs none.0 no_figures))
    (let e : 0 + none.0 ≡ none.0 = omega arith in e) (figures_each 0 fs none.0 (let long = nine.nine in omega (arith, none.1, long))))
    (nine.in_range none.0 none.1)

-- figures of lanes that may stand are in their ranges
pub are_nine : (side : QueueSide) (db : Trees) (counts : List Row) (s : EventBuffer) (held : HoldsAmong side db counts s) → MayStand s → AreNine held.figures
are_nine side db counts s held may = record {
  nine = held.lanes.nine;
  in_range = λ k low.
      let is = held.lanes.lanes k low in
      let sound = may.sound.each k low in
      record {
        takes_one = subst (λ (lane : LaneState). 1 ≤ lane.capacity) is sound.takes_one;
        takes_most = subst (λ (lane : LaneState). lane.capacity ≤ MAX_CAPACITY) is (may.capacities k low);
        lost = subst (λ (lane : LaneState). lane.lost ≤ MAX_ID) is sound.lost_at_most;
      };
}

-- ---- the queries of one side, under either form

module _ (old new : State) (rows : List Row) (side : QueueSide) where
  -- the figures are shown in their order
  shows_figures : Shown (lanes_select side) [] old new rows → HasSide side old.now.schema → (fs : List Figures)
      → IsPermutation (figures_rows 0 fs) (old.now.trees (lanes_tree side)) → rows ≡ map shown_lane (figures_rows 0 fs)
  shows_figures shown (inl two) fs same =
      let read = reads_as (lanes_select side) [] old new (pair_schema two.0) two.1 _ (lanes_is side two.0).0 (lanes_plain side two.0) (lanes_is side two.0).1
      rows shown in
      in_order (lanes_tree side) lanes_terms old.now.trees rows (figures_rows 0 fs) (lanes_read side old.now.trees) same (figures_table 0 fs) (read.answer Null)
  shows_figures shown (inr has) fs same =
      let text = subst (λ s. Shown (lanes_select s) [] old new rows) has.3 shown in
      let read = reads_as (lanes_select First) [] old new (queue_schema has.0 has.1 has.2) has.4 _ (one.lanes_is has.0 has.1 has.2).0
      (one.lanes_plain has.0 has.1 has.2) (one.lanes_is has.0 has.1 has.2).1 rows text in
      in_order 3 lanes_terms old.now.trees rows (figures_rows 0 fs) refl
      (subst (λ s. IsPermutation (figures_rows 0 fs) (old.now.trees (lanes_tree s))) has.3 same) (figures_table 0 fs) (read.answer Null)

  -- the rows too
  shows_rows : Shown (rows_select side) [] old new rows → HasSide side old.now.schema → (xs : List Queued)
      → id_rows.Rise (λ (x : Queued). x.id) queued_cells xs → IsPermutation (map queued_row xs) (old.now.trees (rows_tree side))
      → (new.now ≡ old.now) × (rows ≡ map shown_queued (map queued_row xs))
  shows_rows shown (inl two) xs rise same =
      let read = reads_as (rows_select side) [] old new (pair_schema two.0) two.1 _ (rows_is side two.0).0 (rows_plain side two.0) (rows_is side two.0).1 rows
      shown in (
        unchanged (rows_select side) old new (pair_schema two.0) rows two.1 (rows_plain side two.0) shown,
        in_order (rows_tree side) queue_terms old.now.trees rows (map queued_row xs) (rows_read side old.now.trees) same
            (id_rows.is_table (λ (x : Queued). x.id) queued_cells xs rise) (read.answer Null),
      )
  shows_rows shown (inr has) xs rise same =
      let text = subst (λ s. Shown (rows_select s) [] old new rows) has.3 shown in
      let read = reads_as (rows_select First) [] old new (queue_schema has.0 has.1 has.2) has.4 _ (queue_is has.0 has.1 has.2).0
      (queue_plain has.0 has.1 has.2) (queue_is has.0 has.1 has.2).1 rows text in (
        unchanged (rows_select First) old new (queue_schema has.0 has.1 has.2) rows has.4 (queue_plain has.0 has.1 has.2) text,
        in_order 1 queue_terms old.now.trees rows (map queued_row xs) refl
            (subst (λ s. IsPermutation (map queued_row xs) (old.now.trees (rows_tree s))) has.3 same)
            (id_rows.is_table (λ (x : Queued). x.id) queued_cells xs rise) (read.answer Null),
      )

  -- what is shown of the figures of lanes that may stand lacks none
  pub none_lacks : Shown (lanes_select side) [] old new rows → LackNine rows → HasSide side old.now.schema → SideStands side old.now.trees → ⊥
  none_lacks shown lacks has stands =
      let held = stands.holds in
      not_lacking held.figures (are_nine side old.now.trees stands.counts stands.lanes held stands.may)
      (subst LackNine (shows_figures shown has held.figures held.lanes.lanes_is) lacks)

  -- what is shown of their rows can be put back
  pub can_be_put : Shown (rows_select side) [] old new rows → HasSide side old.now.schema → (counts : List Row) (s : EventBuffer) (figures : List Figures)
      → MayStand s → HoldsAmong side old.now.trees counts s → IsPermutation (figures_rows 0 figures) (old.now.trees (lanes_tree side))
      → (new.now ≡ old.now) × CanStand figures rows
  can_be_put shown has counts s figures may held same =
      let shows = shows_rows shown has held.lanes.queued held.lanes.rise held.lanes.queue_is in
      let is : held.figures ≡ figures = one_figures (old.now.trees (lanes_tree side)) held.figures figures held.lanes.lanes_is same in (
        shows.0,
        subst (λ (fs : List Figures). CanStand fs rows) is
            (subst (λ (rs : List Row). CanStand held.figures rs) (sym shows.1)
            (can_stand _ _ counts _ s held.figures held.lanes may)),
      )

module _ {E : Type 0} (old new : State) (side : QueueSide) where
  pub puts_if : (r : Result (Vec (List Value) Global) E) → IfOk r (λ rows. Shown (rows_select side) [] old new rows.items)
      → IfOk r (λ rows. HasSide side old.now.schema → (counts : List Row) (s : EventBuffer) (figures : List Figures)
      → MayStand s → HoldsAmong side old.now.trees counts s → IsPermutation (figures_rows 0 figures) (old.now.trees (lanes_tree side))
      → CanStand figures rows.items)
  puts_if (Ok rows) shown = λ has counts s figures may held same. (can_be_put old new rows.items side shown has counts s figures may held same).1
  puts_if (Err e) shown = tt

-- ---- the queries are understood

module _ (old new : State) (side : QueueSide) (e : Error) (told : IsTrue (is_unread e)) where
  pub lanes_denied : (sql : List ℕ) → sql ≡ lanes_select side → FailsToQuery sql [] old new e ⊎ IsTooLate sql [] old new e
      → IsTrue old.is_open × (HasSide side old.now.schema → ⊥)
  lanes_denied sql is refused =
      let none = means_nothing old new sql [] e told refused in
      (none.is_open, no (subst (λ text. (schema : Schema) → old.now.schema ≡ schema → IsPlain (understood schema text) → ⊥) is none.none))
    where
      no : ((schema : Schema) → old.now.schema ≡ schema → IsPlain (understood schema (lanes_select side)) → ⊥) → HasSide side old.now.schema → ⊥
      no none (inl two) = none (pair_schema two.0) two.1 (lanes_plain side two.0)
      no none (inr has) =
          none (queue_schema has.0 has.1 has.2) has.4
          (subst (λ s. IsPlain (understood (queue_schema has.0 has.1 has.2) (lanes_select s))) (sym has.3) (one.lanes_plain has.0 has.1 has.2))

  pub rows_denied : (sql : List ℕ) → sql ≡ rows_select side → FailsToQuery sql [] old new e ⊎ IsTooLate sql [] old new e
      → IsTrue old.is_open × (HasSide side old.now.schema → ⊥)
  rows_denied sql is refused =
      let none = means_nothing old new sql [] e told refused in
      (none.is_open, no (subst (λ text. (schema : Schema) → old.now.schema ≡ schema → IsPlain (understood schema text) → ⊥) is none.none))
    where
      no : ((schema : Schema) → old.now.schema ≡ schema → IsPlain (understood schema (rows_select side)) → ⊥) → HasSide side old.now.schema → ⊥
      no none (inl two) = none (pair_schema two.0) two.1 (rows_plain side two.0)
      no none (inr has) =
          none (queue_schema has.0 has.1 has.2) has.4
          (subst (λ s. IsPlain (understood (queue_schema has.0 has.1 has.2) (rows_select s))) (sym has.3) (queue_plain has.0 has.1 has.2))

-- ---- the number of the form

shown_number : (old new : State) (rows : List Row) (schema : Schema) (n : ℕ)
    → (command_of (understood schema form_query) ≡ Select (record { lets = []; body = query 0 form_terms })
    (codes "rowid" ∷ codes "number" ∷ [])) × (reads_listing schema form_query ≡ false)
    → IsPlain (understood schema form_query) → old.now.schema ≡ schema → Shown form_query [] old new rows → IsForm n (old.now.trees 0) → ShowsForm rows n
shown_number old new rows schema n is plain has shown form =
    let read = reads_as form_query [] old new schema has _ is.0 plain is.1 rows shown in
    let got = listed 0 form_terms old.now.trees rows refl (read.answer Null) in
    let row : Row = Int form.0 ∷ Int (pos n) ∷ [] in
    let all : got.0 ≡ row ∷ [] = one_permutation row got.0 (subst (λ xs. IsPermutation xs got.0) form.1 got.1) in
    subst (λ rs. ShowsForm rs n) (sym (got.2 ∙ ap (map (shown_by form_terms)) all)) (record { id = form.0; one = refl; id_is = refl; number = refl })

pub pair_number : (old new : State) (rows : List Row) (c : Checks) (n : ℕ) → old.now.schema ≡ pair_schema c → Shown form_query [] old new rows
    → IsForm n (old.now.trees 0) → ShowsForm rows n
pair_number old new rows c n has shown form = shown_number old new rows (pair_schema c) n (form_is c) (form_plain c) has shown form

pub queue_number : (old new : State) (rows : List Row) (f r m : List Term) (n : ℕ) → old.now.schema ≡ queue_schema f r m → Shown form_query [] old new rows
    → IsForm n (old.now.trees 0) → ShowsForm rows n
queue_number old new rows f r m n has shown form =
    shown_number old new rows (schema_for Queue f r m) n (one.form_is Queue f r m) (one.form_plain Queue f r m) has shown form
