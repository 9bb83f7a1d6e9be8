-- What the statements that make the second centre's side make of a queue's database.
use Rattle.std.proofs.Common.{◌≡◌, ◌≢◌, inl, inr, ℕ, ◌+◌, ℤ, pos, negsuc, List, [], ◌∷◌, ◌++◌, length, map, false, IsTrue, Option, None, Ok, refl, sym, ap, subst, ◌∙◌, arith, IsPermutation}
use Rattle.std.proofs.lemmas.Simd.{map-map}
use Rattle.sqlite_tied.specs.Compute.{everything}
use Rattle.sqlite_resolve.specs.Compile.{table_defined_by}
use Rattle.sqlite_schema.specs.declared.schema.Keys.TheVariants.{Enforced}
use Rattle.sqlite.specs.declared.types.Value.TheVariants.{Null, Int}
use Rattle.sqlite.specs.Command.TheVariants.{Insert, Update}
use Rattle.sqlite.specs.Source.TheVariants.{Values}
use Rattle.sqlite.specs.Schema.{Schema}
use Rattle.sqlite.specs.Query.{Query, inner, end, IsAnswer, output, Output}
use Rattle.sqlite.specs.Program.{overlay}
use Rattle.sqlite.specs.Term.{Term, lit, col}
use Rattle.sqlite.specs.Order.{Row, column}
use Rattle.sqlite.specs.Tree.{Trees, put_row, without_rowid}
use Rattle.sqlite.specs.Edit.{edit_of, put_all, without_all}
use Rattle.sqlite.specs.Cast.{cast_row}
use Rattle.sqlite.specs.Rowids.TheVariants.{Chosen, Given}
use Rattle.sqlite.specs.Effect.{Database}
use Rattle.sqlite.specs.Does.{Does, lacks_sequence}
use Rattle.sqlite.specs.Rows.{Task, Written, Inserts, Updates}
use Rattle.sqlite_catalog.specs.Change.{created}
use Rattle.sqlite.specs.Listing.{understood}
use Rattle.sqlite.specs.Given.{IsPlain}
use Rattle.sqlite.specs.State.{State, Executes, mode_of}
use Rattle.sqlite_trees.specs.declared.store.Store.{Ghosts}
use Rattle.sqlite.specs.Held.{Held, state}
use Rattle.dnp_store.specs.steps.Making.{ExecuteAll}
use Rattle.sqlite.proofs.Callers.{command_of, statement_of, runs_as, one_step, one_permutation}
use Rattle.sqlite_rules.specs.Calls.{ids_of}
use Rattle.sqlite_rules.specs.Lists.{Has}
use Rattle.sqlite_trees.proofs.ListLemmas.{IsPermutation-same}
use Rattle.dnp_objects.specs.declared.limits.TheConstants.{LANES}
use Rattle.dnp_eventbuf.specs.EventBuffer.{EventBuffer, empty_buffer}
use Rattle.dnp_store.specs.Texts.{form_update, lanes_b_insert}
use Rattle.dnp_store.specs.Tables.{HaveOwnIds, IsCounted, count_row, counts_of, form_with, no_schema, only, schema_of}
use Rattle.dnp_store.specs.QueueTables.{Figures, HoldsIn, HoldsLanes, HoldsBuffer, IsForm1, figures_cells, figures_rows, lanes_with, queue_schema, queue_with}
use Rattle.dnp_store.specs.PairTables.{CountSides, IsOfSides, lanes_b_with, migrated, pair_schema, queue_b_with, rows_name}
use Rattle.dnp_store.specs.Schemas.{checks_of_lanes_b, checks_of_queue_b, lanes_b_text, queue_b_text, table_of_text}
use Rattle.dnp_store.specs.declared.queue_side.QueueSide.TheVariants.{First, Second}
use Rattle.dnp_store.specs.steps.Making.{fresh}
use Rattle.dnp_store.specs.steps.Seconds.{HasQueueB, HasSecond, IsSecond, has_second_name, with_second}
use Rattle.dnp_store.proofs.Creating.{IsMade, IsTable, is_of, made_of, makes, plain_of, treeless}
use Rattle.dnp_store.proofs.Filling.{empty_lanes, none_raised, put_end}
use Rattle.dnp_store.proofs.Numbering.{PutsIn}
use Rattle.dnp_store.proofs.Statements.{IsRead, command_read, plain_read, went, same_value, otherwise, written}
use Rattle.dnp_store.proofs.Counting.{cast_int, cast_null}
use Rattle.dnp_store.proofs.Recounting.{named_alone, same_id}
use Rattle.dnp_store.proofs.PairSchema.{lanes_of, names_apart, quiet_pair}
use Rattle.dnp_store.proofs.Opening.{each_one}

-- ---- the lanes for one centre, where only other trees change

kept_lanes : (db now : Trees) (s : EventBuffer) (fs : List Figures) → now 1 ≡ db 1 → now 2 ≡ db 2 → now 3 ≡ db 3 → HoldsIn db s fs → HoldsIn now s fs
kept_lanes db now s fs rows counts lanes h =
    let name = rows_name First in
    subst (λ (l : List Row). HoldsLanes name (now 1) (now 2) l s fs) (sym lanes) (subst (λ (c : List Row). HoldsLanes name (now 1) c (db 3) s fs) (sym counts)
    (subst (λ (r : List Row). HoldsLanes name r (db 2) (db 3) s fs) (sym rows) h))

kept_buffer : (db now : Trees) (s : EventBuffer) → now 0 ≡ db 0 → now 1 ≡ db 1 → now 2 ≡ db 2 → now 3 ≡ db 3 → HoldsBuffer db s → HoldsBuffer now s
kept_buffer db now s form rows counts lanes h = record {
  figures = h.figures;
  form = subst IsForm1 (sym form) h.form;
  lanes = kept_lanes db now s h.figures rows counts lanes h.lanes;
  overflow = h.overflow;
}

-- ---- CREATE TABLE

queue_b_is : (f q l : List Term) → IsTable queue_b_text (understood (queue_schema f q l) queue_b_text)
unfolding understood everything
queue_b_is f q l = (refl, refl, refl, refl)

queue_b_made : IsMade queue_b_with (table_defined_by queue_b_text)
unfolding everything
queue_b_made = refl

abbrev b_checks : List Term
b_checks = (table_of_text (table_defined_by queue_b_text)).checks

abbrev four_schema : List Term → List Term → List Term → List Term → Schema
four_schema f q l b = schema_of f (queue_with q) (only (lanes_with l ∷ queue_b_with b ∷ []))

queue_b_put : (f q l b : List Term) → created (queue_schema f q l) (treeless (queue_b_with b)) ≡ four_schema f q l b
unfolding everything
queue_b_put f q l b = refl

queue_b_joined : (f q l : List Term) → created (queue_schema f q l) (table_of_text (table_defined_by queue_b_text)) ≡ four_schema f q l b_checks
queue_b_joined f q l =
    ap (created (queue_schema f q l)) (made_of queue_b_with (table_defined_by queue_b_text) queue_b_made) ∙ queue_b_put f q l b_checks

four_lacks : (f q l b : List Term) → lacks_sequence (four_schema f q l b) ≡ false
unfolding everything
four_lacks f q l b = refl

pub created_queue_b : (old new : State) (count : ℕ) (f q l : List Term) (s : EventBuffer) → old.now.schema ≡ queue_schema f q l → HoldsBuffer old.now.trees s
    → Executes queue_b_text [] old new (Ok count) → HasQueueB f q l s new.now
unfolding checks_of_queue_b
created_queue_b old new count f q l s has holds h =
    let read = understood (queue_schema f q l) queue_b_text in
    let is = queue_b_is f q l in
    let run = makes old new queue_b_text (queue_schema f q l) count has (is_of queue_b_text read is) (plain_of queue_b_text read is) h in
    let made = run.1 in
    let mid : run.0.schema ≡ four_schema f q l b_checks = made.is ∙ ap (created (queue_schema f q l)) (sym (ap table_of_text made.defined))
    ∙ queue_b_joined f q l in
    let same : new.now ≡ run.0 = same_value (otherwise _ (lacks_sequence run.0.schema) (ap lacks_sequence mid ∙ four_lacks f q l b_checks) run.2) in
    let kept = made.others in
    let at = λ (t : ℕ). ap (λ (d : Database). d.trees t) same in
    record {
      schema = ap (λ (d : Database). d.schema) same ∙ mid;
      holds = kept_buffer old.now.trees new.now.trees s (at 0 ∙ kept.0) (at 1 ∙ kept.1.0) (at 2 ∙ kept.1.1.0) (at 3 ∙ kept.1.1.1.0) holds;
      empty = at 4 ∙ made.empty;
    }

lanes_b_is : (f q l b : List Term) → IsTable lanes_b_text (understood (four_schema f q l b) lanes_b_text)
unfolding understood everything
lanes_b_is f q l b = (refl, refl, refl, refl)

lanes_b_made : IsMade lanes_b_with (table_defined_by lanes_b_text)
unfolding everything
lanes_b_made = refl

abbrev lb_checks : List Term
lb_checks = (table_of_text (table_defined_by lanes_b_text)).checks

abbrev five_schema : List Term → List Term → List Term → List Term → List Term → Schema
five_schema f q l b lb = pair_schema (record { form = f; queue = q; lanes = l; queue_b = b; lanes_b = lb; more = no_schema })

lanes_b_put : (f q l b lb : List Term) → created (four_schema f q l b) (treeless (lanes_b_with lb)) ≡ five_schema f q l b lb
unfolding everything
lanes_b_put f q l b lb = refl

lanes_b_joined : (f q l b : List Term) → created (four_schema f q l b) (table_of_text (table_defined_by lanes_b_text)) ≡ five_schema f q l b lb_checks
lanes_b_joined f q l b =
    ap (created (four_schema f q l b)) (made_of lanes_b_with (table_defined_by lanes_b_text) lanes_b_made) ∙ lanes_b_put f q l b lb_checks

five_lacks : (f q l b lb : List Term) → lacks_sequence (five_schema f q l b lb) ≡ false
unfolding everything
five_lacks f q l b lb = refl

pub created_lanes_b : (old new : State) (count : ℕ) (f q l : List Term) (s : EventBuffer) → HasQueueB f q l s old.now
    → Executes lanes_b_text [] old new (Ok count) → HasSecond f q l s [] new.now
unfolding checks_of_lanes_b
created_lanes_b old new count f q l s has h =
    let b = checks_of_queue_b in
    let read = understood (four_schema f q l b) lanes_b_text in
    let is = lanes_b_is f q l b in
    let run = makes old new lanes_b_text (four_schema f q l b) count has.schema (is_of lanes_b_text read is) (plain_of lanes_b_text read is) h in
    let made = run.1 in
    let mid : run.0.schema ≡ five_schema f q l b lb_checks = made.is ∙ ap (created (four_schema f q l b)) (sym (ap table_of_text made.defined))
    ∙ lanes_b_joined f q l b in
    let same : new.now ≡ run.0 = same_value (otherwise _ (lacks_sequence run.0.schema) (ap lacks_sequence mid ∙ five_lacks f q l b lb_checks) run.2) in
    let kept = made.others in
    let at = λ (t : ℕ). ap (λ (d : Database). d.trees t) same in
    record {
      schema = ap (λ (d : Database). d.schema) same ∙ mid;
      holds = kept_buffer old.now.trees new.now.trees s (at 0 ∙ kept.0) (at 1 ∙ kept.1.0) (at 2 ∙ kept.1.1.0) (at 3 ∙ kept.1.1.1.0) has.holds;
      empty = at 4 ∙ kept.1.1.1.1.0 ∙ has.empty;
      filled = at 5 ∙ made.empty;
    }

-- ---- the names of both

names_free : (f q l : List Term) → has_second_name (queue_schema f q l) ≡ false
unfolding everything
names_free f q l = refl

-- nothing in the database of a queue for one centre has one of them
pub not_named : (schema : Schema) (f q l : List Term) → schema ≡ queue_schema f q l → IsTrue (has_second_name schema) → ⊥
not_named schema f q l is named = absurd (let no = sym named ∙ ap has_second_name is ∙ names_free f q l in cc)

-- ---- INSERT

abbrev pub lane_params : ℕ → ℕ → Row
lane_params number capacity = Int (pos number) ∷ Int (pos capacity) ∷ []

abbrev lane_terms : List Term
lane_terms = col 0 0 ∷ lit Null ∷ col 0 1 ∷ lit (Int (pos 0)) ∷ lit (Int (pos 0)) ∷ []

lane_read : (f q l : List Term) → IsRead (Insert 5 (Values lane_terms 5)) (understood (pair_schema (with_second f q l)) lanes_b_insert)
unfolding understood everything
lane_read f q l = (refl, refl, refl)

lane_is : (f q l : List Term) → command_of (understood (pair_schema (with_second f q l)) lanes_b_insert) ≡ Insert 5 (Values lane_terms 5)
lane_is f q l = command_read _ (understood (pair_schema (with_second f q l)) lanes_b_insert) (lane_read f q l)

lane_plain : (f q l : List Term) → IsPlain (understood (pair_schema (with_second f q l)) lanes_b_insert)
lane_plain f q l = plain_read _ (understood (pair_schema (with_second f q l)) lanes_b_insert) (lane_read f q l)

abbrev lane_task : List Term → List Term → List Term → Option ℕ → Row → Task
lane_task f q l limit params =
    record { limit = limit; keys = Enforced; schema = pair_schema (with_second f q l); table = lanes_of Second (with_second f q l); params = params }

lane_put : (f q l : List Term) (limit : Option ℕ) (number capacity : ℕ) (db : Trees) (a : Written)
    → Inserts (lane_task f q l limit (lane_params number capacity)) (Values lane_terms 5) db (Ok a)
    → PutsIn 5 (Int (pos number) ∷ figures_cells (fresh capacity)) db a.trees
unfolding everything
lane_put f q l limit number capacity db a h =
    let c = with_second f q l in
    let sourced = went h in
    let counter = went sourced.2 in
    let edited_to = went counter.2 in
    let next = went edited_to.2 in
    let out = same_value next.2 in
    let row = Int (pos number) ∷ figures_cells (fresh capacity) in
    let source : sourced.0 ≡ row ∷ [] = sourced.1.1 in
    let edit = λ (rows : List Row). edit_of db (lanes_of Second c) [] Chosen 0 rows in
    let news : (edit sourced.0).news ≡ row ∷ [] =
    ap (λ rows. (edit rows).news) source ∙ rw (cast_int (pos number), cast_null, cast_int (pos capacity), cast_int (pos 0)) refl in
    let step = one_step (pair_schema c) Enforced db edited_to.0 (edit sourced.0) (quiet_pair c refl db (edit sourced.0) (omega arith)) edited_to.1 in
    let last : next.0 ≡ edited_to.0 = same_value next.1 in
    record {
      table = ap (λ (w : Written). w.trees 5) out ∙ ap (λ (t : Trees). t 5) last ∙ step.rows ∙ ap (put_all (db 5)) news;
      others = λ t not_5. ap (λ (w : Written). w.trees t) out ∙ ap (λ (d : Trees). d t) last ∙ step.others t not_5 tt;
    }

pub lane_made : (old new : State) (number capacity count : ℕ) (f q l : List Term) (s : EventBuffer) (fs : List Figures) → number ≡ length fs
    → HasSecond f q l s fs old.now → Executes lanes_b_insert (lane_params number capacity) old new (Ok count)
    → HasSecond f q l s (fs ++ fresh capacity ∷ []) new.now
lane_made old new number capacity count f q l s fs at has h =
    let c = with_second f q l in
    let params = lane_params number capacity in
    let command = Insert 5 (Values lane_terms 5) in
    let w = runs_as lanes_b_insert params old new (pair_schema c) has.schema command (lane_is f q l) (lane_plain f q l) count h in
    let does = subst (λ s. Does old.step_limit (mode_of old) params (record old.now { schema = s })
    (statement_of lanes_b_insert (understood (pair_schema c) lanes_b_insert)) None command (Ok (w.tally, new.now))) has.schema w.changed in
    let done = written (lane_task f q l old.step_limit params) (mode_of old) command old.now.trees w.tally new.now does in
    let put = lane_put f q l old.step_limit number capacity old.now.trees done.0 done.1 in
    let is = done.2 in
    let row = Int (pos number) ∷ figures_cells (fresh capacity) in
    let tree = λ (t : ℕ). ap (λ (d : Database). d.trees t) is in
    record {
      schema = ap (λ (d : Database). d.schema) is;
      holds = kept_buffer old.now.trees new.now.trees s (tree 0 ∙ put.others 0 (λ e. absurd (omega arith))) (tree 1 ∙ put.others 1 (λ e. absurd (omega arith)))
          (tree 2 ∙ put.others 2 (λ e. absurd (omega arith))) (tree 3 ∙ put.others 3 (λ e. absurd (omega arith))) has.holds;
      empty = tree 4 ∙ put.others 4 (λ e. absurd (omega arith)) ∙ has.empty;
      filled = tree 5 ∙ put.table ∙ ap (put_row row) has.filled ∙ put_end 0 number fs (fresh capacity) (omega arith);
    }

-- ---- UPDATE

abbrev query : Query
query = record {
  from = inner 0 end;
  filter = [];
  group = None;
  project = col 1 0 ∷ col 1 0 ∷ lit (Int (pos 2)) ∷ [];
  distinct = false;
  collations = [];
  order = [];
  limit = lit (Int (negsuc 0));
  offset = lit (Int (pos 0));
}

number_read : (f q l : List Term) → IsRead (Update 0 (record { lets = []; body = query })) (understood (pair_schema (with_second f q l)) form_update)
unfolding understood everything
number_read f q l = (refl, refl, refl)

number_is : (f q l : List Term) → command_of (understood (pair_schema (with_second f q l)) form_update) ≡ Update 0 (record { lets = []; body = query })
number_is f q l = command_read _ (understood (pair_schema (with_second f q l)) form_update) (number_read f q l)

number_plain : (f q l : List Term) → IsPlain (understood (pair_schema (with_second f q l)) form_update)
number_plain f q l = plain_read _ (understood (pair_schema (with_second f q l)) form_update) (number_read f q l)

abbrev number_task : List Term → List Term → List Term → Option ℕ → Task
number_task f q l limit = record { limit = limit; keys = Enforced; schema = pair_schema (with_second f q l); table = form_with f; params = [] }

abbrev made : Row → Output
made r = ([], column r 0 ∷ column r 0 ∷ Int (pos 2) ∷ [])

-- the outputs of the query, in some order
matched : (db : Trees) (rows : List Row) → IsAnswer query (overlay db []) [] rows
    → (ordered : List Output) × IsPermutation (map made (db 0)) ordered × (rows ≡ map (λ (o : Output). o.1) ordered)
matched db rows a =
    let staged : a.staged ≡ map (λ r. [] ∷ r ∷ []) (db 0) = a.grouped ∙ each_one (λ r. [] ∷ r ∷ []) (db 0) in
    let kept : a.kept ≡ map made (db 0) = a.distinct ∙ ap (map (output query)) staged ∙ map-map (output query) (λ r. [] ∷ r ∷ []) (db 0) in
    (a.ordered, subst (λ k. IsPermutation k a.ordered) kept a.same, a.shown)

-- the one row of the form has another number, and no other table changes
record Renumbers (id : ℤ) (db now : Trees) : Type 0 where
  form : now 0 ≡ (Int id ∷ Int (pos 2) ∷ []) ∷ []
  others : (t : ℕ) → t ≢ 0 → now t ≡ db t

renumbered : (f q l : List Term) (limit : Option ℕ) (id : ℤ) (db : Trees) (a : Written) → db 0 ≡ (Int id ∷ Int (pos 1) ∷ []) ∷ []
    → Updates (number_task f q l limit) (record { lets = []; body = query }) [] db (Ok a) → Renumbers id db a.trees
unfolding everything
renumbered f q l limit id db a is h =
    let c = with_second f q l in
    let new : Row = Int id ∷ Int (pos 2) ∷ [] in
    let queried = went h in
    let found = matched db queried.0 (queried.1.answer Null) in
    let ordered : found.0 ≡ made (Int id ∷ Int (pos 1) ∷ []) ∷ [] = one_permutation _ found.0
    (subst (λ rows. IsPermutation (map made rows) found.0) is found.1) in
    let rows : queried.0 ≡ (Int id ∷ new) ∷ [] = found.2 ∙ ap (map (λ (o : Output). o.1)) ordered in
    let edited_to = went queried.2 in
    let out = same_value edited_to.2 in
    let edit = λ (rs : List Row). edit_of db (form_with f) (ids_of rs) Given 1 rs in
    let step = one_step (pair_schema c) Enforced db edited_to.0 (edit queried.0) (quiet_pair c refl db (edit queried.0) (omega arith)) edited_to.1 in
    let cast : cast_row (form_with f) new ≡ new = rw (cast_int id, cast_int (pos 2)) refl in
    let put : a.trees 0 ≡ put_row new (without_rowid id (db 0)) = ap (λ (w : Written). w.trees 0) out ∙ step.rows
    ∙ ap (λ rs. put_all (without_all (db 0) (edit rs).gone) (edit rs).news) rows ∙ ap (λ (r : Row). put_row r (without_rowid id (db 0))) cast in
    record {
      form = put ∙ rw (is, same_id id) refl;
      others = λ t not_0. ap (λ (w : Written). w.trees t) out ∙ step.others t not_0 tt;
    }

-- ---- the second centre's side stands

pub own_ids : (name : List ℕ) (rows : List Row) (n : ℕ) → IsCounted name rows n → HaveOwnIds rows
own_ids name rows n (inl none) x y has_x has_y tied = absurd (subst (λ (rs : List Row). Has rs x) none.0 has_x)
own_ids name rows n (inr one) x y has_x has_y tied =
    go (subst (λ (rs : List Row). Has rs x) one.1 has_x) (subst (λ (rs : List Row). Has rs y) one.1 has_y)
  where
    go : Has (count_row name one.0 n ∷ []) x → Has (count_row name one.0 n ∷ []) y → x ≡ y
    go (inl a) (inl b) = a ∙ sym b
    go (inl a) (inr b) = absurd b
    go (inr a) b = absurd a

-- a count of the first side alone is of one of the two
first_counts : (rows : List Row) (n : ℕ) → IsCounted (rows_name First) rows n → CountSides rows
first_counts rows n counted = record { own = own_ids (rows_name First) rows n counted; only = go counted }
  where
    go : IsCounted (rows_name First) rows n → (r : Row) → Has rows r → IsOfSides r
    go (inl none) r has = absurd (subst (λ (rs : List Row). Has rs r) none.0 has)
    go (inr one) r has = here (subst (λ (rs : List Row). Has rs r) one.1 has)
      where
        here : Has (count_row (rows_name First) one.0 n ∷ []) r → IsOfSides r
        here (inl is) = inl (ap (λ (x : Row). column x 1) is)
        here (inr left) = absurd left

uncounted : (rows : List Row) (n : ℕ) → IsCounted (rows_name First) rows n → counts_of (rows_name Second) rows ≡ []
uncounted rows n (inl none) = ap (counts_of (rows_name Second)) none.0
uncounted rows n (inr one) = ap (counts_of (rows_name Second)) one.1 ∙ rw (names_apart First) refl

pub numbered_second : (old new : State) (count : ℕ) (f q l : List Term) (s : EventBuffer) (capacities : List ℕ) → length capacities ≡ LANES
    → HasSecond f q l s (map fresh capacities) old.now → Executes form_update [] old new (Ok count) → IsSecond f q l (migrated s capacities) new.now
numbered_second old new count f q l s capacities nine has h =
    let c = with_second f q l in
    let command = Update 0 (record { lets = []; body = query }) in
    let w = runs_as form_update [] old new (pair_schema c) has.schema command (number_is f q l) (number_plain f q l) count h in
    let does = subst (λ s. Does old.step_limit (mode_of old) [] (record old.now { schema = s })
    (statement_of form_update (understood (pair_schema c) form_update)) None command (Ok (w.tally, new.now))) has.schema w.changed in
    let done = written (number_task f q l old.step_limit) (mode_of old) command old.now.trees w.tally new.now does in
    let form = has.holds.form in
    let put = renumbered f q l old.step_limit form.0 old.now.trees done.0 form.1 done.1 in
    let is = done.2 in
    let tree = λ (t : ℕ). ap (λ (d : Database). d.trees t) is in
    let kept = kept_lanes old.now.trees new.now.trees s has.holds.figures (tree 1 ∙ put.others 1 (λ e. absurd (omega arith)))
    (tree 2 ∙ put.others 2 (λ e. absurd (omega arith))) (tree 3 ∙ put.others 3 (λ e. absurd (omega arith))) has.holds.lanes in
    record {
      schema = ap (λ (d : Database). d.schema) is;
      holds = record {
        form = (form.0, tree 0 ∙ put.form);
        counts = first_counts (new.now.trees 2) s.last_id kept.counted;
        first = record {
          figures = has.holds.figures;
          lanes = record {
            queued = kept.queued;
            queue_is = kept.queue_is;
            lanes_is = kept.lanes_is;
            counted = named_alone (rows_name First) (new.now.trees 2) s.last_id kept.counted;
            rise = kept.rise;
            up_to_last = kept.up_to_last;
            low = kept.low;
            nine = kept.nine;
            lanes = kept.lanes;
          };
          overflow = has.holds.overflow;
        };
        second = record {
          figures = map fresh capacities;
          lanes = empty_lanes (rows_name Second) (new.now.trees 4) (counts_of (rows_name Second) (new.now.trees 2)) (new.now.trees 5) capacities nine
              (tree 4 ∙ put.others 4 (λ e. absurd (omega arith)) ∙ has.empty) (uncounted (new.now.trees 2) s.last_id kept.counted)
              (tree 5 ∙ put.others 5 (λ e. absurd (omega arith)) ∙ has.filled);
          overflow = sym (none_raised capacities);
        };
      };
    }

-- both of its tables are made
pub created_second : {S : Type 0} (g : Ghosts S) (old new : Held S) (f q l : List Term) (s : EventBuffer) → (state g old).now.schema ≡ queue_schema f q l
    → HoldsBuffer (state g old).now.trees s → ExecuteAll g (queue_b_text ∷ lanes_b_text ∷ []) old new → HasSecond f q l s [] (state g new).now
created_second g old new f q l s has holds ran =
    let lanes = ran.3 in
    let one = created_queue_b (state g old) (state g ran.0) ran.1 f q l s has holds ran.2 in
    subst (λ (x : Held _). HasSecond f q l s [] (state g x).now) lanes.3 (created_lanes_b (state g ran.0) (state g lanes.0) lanes.1 f q l s one lanes.2)
