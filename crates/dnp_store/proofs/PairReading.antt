-- What queries show of the tables of one side.
use Rattle.std.proofs.Common.{◌≡◌, ℕ, zero, suc, map, arith, pos, List, [], ◌∷◌, codes, Bool, false, IsTrue, Some, None, Ok, Err, Result, IfOk, inl, inr, refl, sym, ap, subst, ◌∙◌, IsPermutation}
use Rattle.std.specs.Prelude.{Vec}
use Rattle.std.specs.declared.alloc.Global.{Global}
use Rattle.std.specs.List.{AllByRecursion}
use Rattle.sqlite_tied.specs.Compute.{everything}
use Rattle.sqlite_schema.specs.declared.schema.Constraint.TheVariants.{Datatype}
use Rattle.sqlite.specs.Command.TheVariants.{Select}
use Rattle.sqlite.specs.Schema.{Schema}
use Rattle.sqlite.specs.declared.types.Value.{Value}
use Rattle.sqlite.specs.Order.{Row}
use Rattle.sqlite.specs.Effect.{Database, IsDatabase}
use Rattle.sqlite.specs.Given.{IsPlain}
use Rattle.sqlite.specs.Listing.{understood, reads_listing}
use Rattle.sqlite.specs.State.{State, Shown}
use Rattle.sqlite.proofs.Callers.{command_of, reads_as}
use Rattle.sqlite.specs.Program.{overlay}
use Rattle.sqlite_trees.proofs.ListLemmas.{all-permutation}
use Rattle.sqlite.specs.declared.types.Value.TheVariants.{Null}
use Rattle.dnp_store.specs.declared.queue_side.QueueSide.{QueueSide}
use Rattle.dnp_store.specs.declared.queue_side.QueueSide.TheVariants.{First, Second}
use Rattle.dnp_eventbuf.specs.EventBuffer.{LaneState, EventBuffer}
use Rattle.sqlite.specs.Tree.{Trees}
use Rattle.dnp_store.specs.Texts.{lanes_select, rows_select}
use Rattle.dnp_store.specs.Tables.{IsCounted, count_row, counts_of, form_with, sequence}
use Rattle.dnp_store.specs.QueueTables.{Figures, Queued, figures_rows, lanes_columns, queue_schema, queued_cells, queue_columns}
use Rattle.dnp_store.specs.PairTables.{Checks, HoldsSide, IsForm, lanes_tree, pair_schema, rows_name, rows_tree}
use Rattle.dnp_store.specs.steps.Pairs.{HoldsAmong, ReadsPair, ReadsSide}
use Rattle.dnp_store.specs.steps.Shown.{AreNine, IsPutBack, ShowIds, ShowNine, ShowsForm}
use Rattle.dnp_store.proofs.IdRows.{IsUnder, are_under}
use Rattle.dnp_store.proofs.Opening.{form_query, form_terms, lanes_terms, listed, query, queue_is, queue_plain, queue_terms, reads_form_in, reads_lanes, reads_lanes_in, shown_by, unchanged}
use Rattle.dnp_store.proofs.PairSchema.{lanes_of, lanes_read, rows_read, rows_with}
use Rattle.dnp_store.proofs.Restoring.{PutsBack, held_lanes, reads_queued, reads_queued_in}
use Rattle.sqlite_schema.specs.Rules.{has_computed}
use Rattle.dnp_store.proofs.Rows.{IsTyped, form_columns, typed}

-- ---- what the texts are

pub form_is : (c : Checks)
    → (command_of (understood (pair_schema c) form_query) ≡ Select (record { lets = []; body = query 0 form_terms }) (codes "rowid" ∷ codes "number" ∷ []))
    × (reads_listing (pair_schema c) form_query ≡ false)
unfolding understood everything
form_is c = (refl, refl)

pub form_plain : (c : Checks) → IsPlain (understood (pair_schema c) form_query)
unfolding understood everything
form_plain c = (refl, refl)

pub lanes_is : (side : QueueSide) (c : Checks)
    → (command_of (understood (pair_schema c) (lanes_select side)) ≡ Select (record { lets = []; body = query (lanes_tree side) lanes_terms })
    (codes "lane" ∷ codes "cap" ∷ codes "lost" ∷ codes "raised" ∷ [])) × (reads_listing (pair_schema c) (lanes_select side) ≡ false)
unfolding understood everything
lanes_is First c = (refl, refl)
lanes_is Second c = (refl, refl)

pub lanes_plain : (side : QueueSide) (c : Checks) → IsPlain (understood (pair_schema c) (lanes_select side))
unfolding understood everything
lanes_plain First c = (refl, refl)
lanes_plain Second c = (refl, refl)

pub rows_is : (side : QueueSide) (c : Checks)
    → (command_of (understood (pair_schema c) (rows_select side)) ≡ Select (record { lets = []; body = query (rows_tree side) queue_terms })
    (codes "id" ∷ codes "lane" ∷ codes "point" ∷ codes "flags" ∷ codes "value" ∷ codes "time" ∷ [])) × (reads_listing (pair_schema c) (rows_select side) ≡ false)
unfolding understood everything
rows_is First c = (refl, refl)
rows_is Second c = (refl, refl)

pub rows_plain : (side : QueueSide) (c : Checks) → IsPlain (understood (pair_schema c) (rows_select side))
unfolding understood everything
rows_plain First c = (refl, refl)
rows_plain Second c = (refl, refl)

-- ---- the rows have their tables' columns

module _ (db : Database) (c : Checks) (has : db.schema ≡ pair_schema c) (sound : IsDatabase db) where
  rules_hold : IsDatabase (record { schema = pair_schema c; trees = db.trees })
  rules_hold = subst (λ (s : Schema). IsDatabase (record { schema = s; trees = db.trees })) has sound

  pub typed_pair_form : AllByRecursion (IsTyped None form_columns) (db.trees 0)
  typed_pair_form = typed None form_columns (has_computed (form_with c.form)) (db.trees 0) (rules_hold.obeys.rules Datatype).0

  pub typed_pair_counts : AllByRecursion (IsTyped None sequence.columns) (db.trees 2)
  typed_pair_counts = typed None sequence.columns (has_computed sequence) (db.trees 2) (rules_hold.obeys.rules Datatype).1.1.0

  pub typed_side_rows : (side : QueueSide) → AllByRecursion (IsTyped (Some 0) queue_columns) (db.trees (rows_tree side))
  typed_side_rows First = typed (Some 0) queue_columns (has_computed (rows_with First c)) (db.trees 1) (rules_hold.obeys.rules Datatype).1.0
  typed_side_rows Second = typed (Some 0) queue_columns (has_computed (rows_with Second c)) (db.trees 4) (rules_hold.obeys.rules Datatype).1.1.1.1.0

  pub typed_side_lanes : (side : QueueSide) → AllByRecursion (IsTyped (Some 0) lanes_columns) (db.trees (lanes_tree side))
  typed_side_lanes First = typed (Some 0) lanes_columns (has_computed (lanes_of First c)) (db.trees 3) (rules_hold.obeys.rules Datatype).1.1.1.0
  typed_side_lanes Second = typed (Some 0) lanes_columns (has_computed (lanes_of Second c)) (db.trees 5) (rules_hold.obeys.rules Datatype).1.1.1.1.1.0

-- ---- what they show

pub reads_pair_number : (old new : State) (rows : List Row) (n : ℕ) → Shown form_query [] old new rows → ShowsForm rows n
    → ReadsPair old new (λ db. IsForm n (db 0))
reads_pair_number old new rows n shown one c sound has =
    let it = reads_form_in old new rows (pair_schema c) one.id (pos n) (form_is c) (form_plain c) (typed_pair_form old.now c has sound) shown one.one one.id_is
    one.number has in
    (it.0, (one.id, it.1))

module _ (old new : State) (rows : List Row) (side : QueueSide) where
  reads_figures : (figures : List Figures) → Shown (lanes_select side) [] old new rows → AreNine figures → ShowNine rows figures
      → ReadsSide side old new (λ db. IsPermutation (figures_rows 0 figures) (db (lanes_tree side)))
  reads_figures figures shown nine shows sound (inl two) =
      reads_lanes_in old new rows (pair_schema two.0) (lanes_tree side) (lanes_select side) figures (lanes_is side two.0) (lanes_plain side two.0)
      (lanes_read side old.now.trees) (typed_side_lanes old.now two.0 two.1 sound side) shown nine shows two.1
  reads_figures figures shown nine shows sound (inr one) =
      subst (λ s. (new.now ≡ old.now) × IsPermutation (figures_rows 0 figures) (old.now.trees (lanes_tree s))) (sym one.3)
      (reads_lanes old new rows figures (subst (λ s. Shown (lanes_select s) [] old new rows) one.3 shown) nine shows one.0 one.1 one.2 sound one.4)

  reads_rows : Shown (rows_select side) [] old new rows → ReadsSide side old new (λ db. PutsBack rows (db (rows_tree side)))
  reads_rows shown sound (inl two) =
      reads_queued_in old new rows (pair_schema two.0) (rows_tree side) (rows_select side) (rows_is side two.0) (rows_plain side two.0)
      (rows_read side old.now.trees) (typed_side_rows old.now two.0 two.1 sound side) shown two.1
  reads_rows shown sound (inr one) =
      subst (λ s. (new.now ≡ old.now) × PutsBack rows (old.now.trees (rows_tree s))) (sym one.3)
      (reads_queued old new rows (subst (λ s. Shown (rows_select s) [] old new rows) one.3 shown) one.0 one.1 one.2 sound one.4)

module _ {E : Type 0} (old new : State) (side : QueueSide) where
  pub lanes_if : (rows : List Row) (r : Result (List Figures) E) → Shown (lanes_select side) [] old new rows → IfOk r AreNine → IfOk r (ShowNine rows)
      → IfOk r (λ figures. ReadsSide side old new (λ db. IsPermutation (figures_rows 0 figures) (db (lanes_tree side))))
  lanes_if rows (Ok figures) shown nine shows = reads_figures old new rows side figures shown nine shows
  lanes_if rows (Err e) shown nine shows = tt

  pub queued_if : (r : Result (Vec (List Value) Global) E) → IfOk r (λ rows. Shown (rows_select side) [] old new rows.items)
      → IfOk r (λ rows. ReadsSide side old new (λ db. PutsBack rows.items (db (rows_tree side))))
  queued_if (Ok rows) shown = reads_rows old new rows.items side shown
  queued_if (Err e) shown = tt

-- the ids in the rows of a table, under any schema that has such a table in this tree
ids_in : (old new : State) (rows : List Row) (schema : Schema) (tree : ℕ) (text : List ℕ)
    → (command_of (understood schema text) ≡ Select (record { lets = []; body = query tree queue_terms })
    (codes "id" ∷ codes "lane" ∷ codes "point" ∷ codes "flags" ∷ codes "value" ∷ codes "time" ∷ [])) × (reads_listing schema text ≡ false)
    → IsPlain (understood schema text) → overlay old.now.trees [] tree ≡ old.now.trees tree → Shown text [] old new rows → old.now.schema ≡ schema
    → (new.now ≡ old.now) × ((n : ℕ) → AllByRecursion (IsUnder n) (old.now.trees tree) → ShowIds rows n)
ids_in old new rows schema tree text is plain bare shown has =
    let read = reads_as text [] old new schema has _ is.0 plain is.1 rows shown in
    let got = listed tree queue_terms old.now.trees rows bare (read.answer Null) in (
      unchanged text old new schema rows has plain shown,
      λ n under. subst (λ (rs : List Row). ShowIds rs n) (sym got.2) (ids_of got.0 n (all-permutation (IsUnder n) (old.now.trees tree) got.0 got.1 under)),
    )
  where
    ids_of : (rs : List Row) (n : ℕ) → AllByRecursion (IsUnder n) rs → ShowIds (map (shown_by queue_terms) rs) n
    ids_of [] n all k low = absurd (omega (arith, low))
    ids_of (r ∷ rs) n all zero low = all.0
    ids_of (r ∷ rs) n all (suc k) low = ids_of rs n all.1 k (omega (arith, low))

-- the rows of a side that is held are under ids up to its last one
held_under : (side : QueueSide) (db : Trees) (noting : List Row) (s : EventBuffer) → HoldsAmong side db noting s
    → AllByRecursion (IsUnder s.last_id) (db (rows_tree side))
held_under side db noting s held =
    are_under (λ (x : Queued). x.id) queued_cells held.lanes.queued s.last_id (db (rows_tree side)) held.lanes.up_to_last held.lanes.queue_is

module _ (old new : State) (rows : List Row) (side : QueueSide) where
  reads_ids : Shown (rows_select side) [] old new rows
      → ReadsSide side old new (λ db. (noting : List Row) (s : EventBuffer) → HoldsAmong side db noting s → ShowIds rows s.last_id)
  reads_ids shown sound (inl two) =
      let it = ids_in old new rows (pair_schema two.0) (rows_tree side) (rows_select side) (rows_is side two.0) (rows_plain side two.0)
      (rows_read side old.now.trees) shown two.1 in
      (it.0, λ noting s held. it.1 s.last_id (held_under side old.now.trees noting s held))
  reads_ids shown sound (inr one) =
      let it = ids_in old new rows (queue_schema one.0 one.1 one.2) 1 (rows_select First) (queue_is one.0 one.1 one.2) (queue_plain one.0 one.1 one.2) refl
      (subst (λ s. Shown (rows_select s) [] old new rows) one.3 shown) one.4 in (
        it.0,
        λ noting s held. it.1 s.last_id (subst (λ (d : QueueSide). AllByRecursion (IsUnder s.last_id) (old.now.trees (rows_tree d))) one.3
            (held_under side old.now.trees noting s held)),
      )

module _ {E : Type 0} (old new : State) (side : QueueSide) where
  pub ids_if : (r : Result (Vec (List Value) Global) E) → IfOk r (λ rows. Shown (rows_select side) [] old new rows.items)
      → IfOk r (λ rows. ReadsSide side old new (λ db. (noting : List Row) (s : EventBuffer) → HoldsAmong side db noting s → ShowIds rows.items s.last_id))
  ids_if (Ok rows) shown = reads_ids old new rows.items side shown
  ids_if (Err e) shown = tt

-- ---- what was put back is what a side holds

-- whatever was counted, the side is held with the last id used that was put back
pub holds_some : (side : QueueSide) (db : Trees) (figures : List Figures) (rows : List Row) (noted : ℕ) (s : EventBuffer) (is_noted : Bool)
    → AreNine figures → IsPermutation (figures_rows 0 figures) (db (lanes_tree side)) → PutsBack rows (db (rows_tree side))
    → IsPutBack figures rows noted s is_noted → (noting : List Row) × HoldsAmong side db noting s
holds_some side db figures rows noted s is_noted nine lanes puts put =
    let back = puts put.bare s put.begun.nine (λ k low. ap (λ (lane : LaneState). lane.rows) (put.begun.lanes k low)) put.restored in
    let noting = count_row (rows_name side) (pos 1) put.last ∷ [] in (
      noting,
      record {
        figures = figures;
        lanes = held_lanes (rows_name side) (db (rows_tree side)) noting (db (lanes_tree side)) figures put.bare s put.last nine lanes
            (inr (pos 1, refl)) put.begun back;
        overflow = back.overflow ∙ put.begun.overflow;
      },
    )

pub holds_among : (side : QueueSide) (db : Trees) (figures : List Figures) (rows : List Row) (noted : ℕ) (s : EventBuffer) (is_noted : Bool)
    → IsTrue is_noted → AreNine figures → IsPermutation (figures_rows 0 figures) (db (lanes_tree side)) → PutsBack rows (db (rows_tree side))
    → IsPutBack figures rows noted s is_noted → (noting : List Row) → IsCounted (rows_name side) noting noted → HoldsAmong side db noting s
holds_among side db figures rows noted s is_noted is nine lanes puts put noting counted =
    let back = puts put.bare s put.begun.nine (λ k low. ap (λ (lane : LaneState). lane.rows) (put.begun.lanes k low)) put.restored in
    record {
      figures = figures;
      lanes = held_lanes (rows_name side) (db (rows_tree side)) noting (db (lanes_tree side)) figures put.bare s put.last nine lanes
          (subst (λ (n : ℕ). IsCounted (rows_name side) noting n) (put.same is) counted) put.begun back;
      overflow = back.overflow ∙ put.begun.overflow;
    }

pub among_of : (side : QueueSide) (db : Trees) (s : EventBuffer) → HoldsSide side db s → HoldsAmong side db (counts_of (rows_name side) (db 2)) s
among_of side db s held = record { figures = held.figures; lanes = held.lanes; overflow = held.overflow }

-- and where it stands among the counts under its name, the side is held
pub holds_side : (side : QueueSide) (db : Trees) (s : EventBuffer) → HoldsAmong side db (counts_of (rows_name side) (db 2)) s → HoldsSide side db s
holds_side side db s held = record { figures = held.figures; lanes = held.lanes; overflow = held.overflow }
