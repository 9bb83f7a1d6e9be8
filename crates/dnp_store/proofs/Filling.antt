-- What the first INSERTs make of a queue's tables.
use Rattle.std.proofs.Common.{◌≡◌, ℕ, zero, suc, ◌+◌, ◌<◌, pos, List, [], ◌∷◌, ◌++◌, length, map, get_or, inl, codes, false, Option, None, Ok, refl, sym, ap, subst, ◌∙◌, arith}
use Rattle.sqlite_tied.specs.Compute.{everything}
use Rattle.sqlite_schema.specs.declared.schema.Keys.TheVariants.{Enforced}
use Rattle.sqlite.specs.declared.types.Value.TheVariants.{Null, Int}
use Rattle.sqlite.specs.Command.TheVariants.{Insert}
use Rattle.sqlite.specs.Source.TheVariants.{Values}
use Rattle.sqlite.specs.Term.{Term, lit, col}
use Rattle.sqlite.specs.Order.{Row}
use Rattle.sqlite.specs.Tree.{Trees, put_row}
use Rattle.sqlite.specs.Edit.{edit_of, put_all}
use Rattle.sqlite.specs.Rowids.TheVariants.{Chosen}
use Rattle.sqlite.specs.Effect.{Database}
use Rattle.sqlite.specs.Does.{Does}
use Rattle.sqlite.specs.Rows.{Task, Written, Inserts}
use Rattle.sqlite.specs.Listing.{understood}
use Rattle.sqlite.specs.Given.{IsPlain}
use Rattle.sqlite.specs.State.{State, Executes, mode_of}
use Rattle.sqlite.proofs.Callers.{command_of, statement_of, runs_as, one_step}
use Rattle.dnp_store.specs.Texts.{lanes_insert}
use Rattle.dnp_store.specs.QueueTables.{queue_schema, lanes_with, Figures, figures_cells, figures_rows, no_figures, is_raised, HoldsLanes, HoldsBuffer}
use Rattle.dnp_store.proofs.Statements.{IsRead, command_read, plain_read, went, written, same_value}
use Rattle.dnp_store.proofs.Counting.{cast_int, cast_null}
use Rattle.dnp_store.proofs.IdRows.{is_less}
use Rattle.sqlite_trees.proofs.ListLemmas.{IsPermutation-same}
use Rattle.dnp_store.specs.declared.store_kind.StoreKind.TheVariants.{Queue}
use Rattle.sqlite.specs.Edit.{Edit, taken_by}
use Rattle.sqlite_rules.specs.Action.{works}
use Rattle.dnp_objects.specs.declared.limits.TheConstants.{LANES}
use Rattle.dnp_eventbuf.specs.EventBuffer.{empty_buffer, empty_lane, no_lane}
use Rattle.dnp_store.specs.Schemas.{checks_of_form, checks_of_rows, made_queue}
use Rattle.dnp_store.specs.steps.Making.{HasLanes, fresh}
use Rattle.dnp_store.proofs.Numbering.{PutsIn}

abbrev pub lane_text : List ℕ
lane_text = lanes_insert

abbrev lane_terms : List Term
lane_terms = col 0 0 ∷ lit Null ∷ col 0 1 ∷ lit (Int (pos 0)) ∷ lit (Int (pos 0)) ∷ []

lane_read : (f q l : List Term) → IsRead (Insert 3 (Values lane_terms 5)) (understood (queue_schema f q l) lane_text)
unfolding understood everything
lane_read f q l = (refl, refl, refl)

lane_is : (f q l : List Term) → command_of (understood (queue_schema f q l) lane_text) ≡ Insert 3 (Values lane_terms 5)
lane_is f q l = command_read _ (understood (queue_schema f q l) lane_text) (lane_read f q l)

lane_plain : (f q l : List Term) → IsPlain (understood (queue_schema f q l) lane_text)
lane_plain f q l = plain_read _ (understood (queue_schema f q l) lane_text) (lane_read f q l)

abbrev lane_task : List Term → List Term → List Term → Option ℕ → Row → Task
lane_task f q l limit params = record { limit = limit; keys = Enforced; schema = queue_schema f q l; table = lanes_with l; params = params }

abbrev pub lane_params : ℕ → ℕ → Row
lane_params number capacity = Int (pos number) ∷ Int (pos capacity) ∷ []

-- no table refers to another
quiet : (f q l : List Term) (db : Trees) (e : Edit) → works (queue_schema f q l) Enforced 0 e.table.tree (taken_by db e) e.news ≡ []
unfolding everything
quiet f q l db e = refl

lane_put : (f q l : List Term) (limit : Option ℕ) (number capacity : ℕ) (db : Trees) (a : Written)
    → Inserts (lane_task f q l limit (lane_params number capacity)) (Values lane_terms 5) db (Ok a)
    → PutsIn 3 (Int (pos number) ∷ figures_cells (fresh capacity)) db a.trees
unfolding everything
lane_put f q l limit number capacity db a h =
    let sourced = went h in
    let counter = went sourced.2 in
    let edited_to = went counter.2 in
    let next = went edited_to.2 in
    let out = same_value next.2 in
    let row = Int (pos number) ∷ figures_cells (fresh capacity) in
    let source : sourced.0 ≡ row ∷ [] = sourced.1.1 in
    let edit = λ (rows : List Row). edit_of db (lanes_with l) [] Chosen 0 rows in
    let news : (edit sourced.0).news ≡ row ∷ [] =
    ap (λ rows. (edit rows).news) source ∙ rw (cast_int (pos number), cast_null, cast_int (pos capacity), cast_int (pos 0)) refl in
    let step = one_step (queue_schema f q l) Enforced db edited_to.0 (edit sourced.0) (quiet f q l db (edit sourced.0)) edited_to.1 in
    let last : next.0 ≡ edited_to.0 = same_value next.1 in
    record {
      table = ap (λ (w : Written). w.trees 3) out ∙ ap (λ (t : Trees). t 3) last ∙ step.rows ∙ ap (put_all (db 3)) news;
      others = λ t not_3. ap (λ (w : Written). w.trees t) out ∙ ap (λ (d : Trees). d t) last ∙ step.others t not_3 tt;
    }

pub put_end : (n number : ℕ) (fs : List Figures) (new : Figures) → number ≡ n + length fs
    → put_row (Int (pos number) ∷ figures_cells new) (figures_rows n fs) ≡ figures_rows n (fs ++ new ∷ [])
put_end n number [] new is = let same : number ≡ n = omega arith in ap (λ (m : ℕ). (Int (pos m) ∷ figures_cells new) ∷ []) same
put_end n number (f ∷ fs) new is = rw (is_less n number (omega arith))
    (ap (λ rows. (Int (pos n) ∷ figures_cells f) ∷ rows) (put_end (n + 1) number fs new (omega arith)))

-- ---- the statements

pub lane_made : (old new : State) (number capacity count : ℕ) (fs : List Figures) → number ≡ length fs → HasLanes old.now fs
    → Executes lane_text (lane_params number capacity) old new (Ok count)
    → HasLanes new.now (fs ++ fresh capacity ∷ [])
lane_made old new number capacity count fs at has h =
    let f = has.form in
    let q = has.queue in
    let l = has.lanes in
    let params = lane_params number capacity in
    let command = Insert 3 (Values lane_terms 5) in
    let w = runs_as lane_text params old new (queue_schema f q l) has.schema command (lane_is f q l) (lane_plain f q l) count h in
    let does = subst (λ s. Does old.step_limit (mode_of old) params (record old.now { schema = s })
    (statement_of lane_text (understood (queue_schema f q l) lane_text)) None command (Ok (w.tally, new.now))) has.schema w.changed in
    let done = written (lane_task f q l old.step_limit params) (mode_of old) command old.now.trees w.tally new.now does in
    let put = lane_put f q l old.step_limit number capacity old.now.trees done.0 done.1 in
    let is = done.2 in
    let row = Int (pos number) ∷ figures_cells (fresh capacity) in
    record {
      form = f;
      queue = q;
      lanes = l;
      form_by = has.form_by;
      queue_by = has.queue_by;
      lanes_by = has.lanes_by;
      schema = ap (λ (d : Database). d.schema) is;
      holds = record {
        number = ap (λ (d : Database). d.trees 0) is ∙ put.others 0 (λ e. absurd (omega arith)) ∙ has.holds.number;
        empty = (
          ap (λ (d : Database). d.trees 1) is ∙ put.others 1 (λ e. absurd (omega arith)) ∙ has.holds.empty.0,
          ap (λ (d : Database). d.trees 2) is ∙ put.others 2 (λ e. absurd (omega arith)) ∙ has.holds.empty.1,
        );
      };
      filled = ap (λ (d : Database). d.trees 3) is ∙ put.table ∙ ap (put_row row) has.filled ∙ put_end 0 number fs (fresh capacity) (omega arith);
    }

-- the schema is that of the statements that made it
pub made_of : (db : Database) (fs : List Figures) → HasLanes db fs → db.schema ≡ made_queue
made_of db fs has =
    has.schema ∙ ap (λ f. queue_schema f has.queue has.lanes) has.form_by ∙ ap (λ q. queue_schema checks_of_form q has.lanes) has.queue_by
    ∙ ap (λ l. queue_schema checks_of_form (checks_of_rows Queue) l) has.lanes_by

-- ---- the lanes are empty

get_or_map : {X : Type 0} (g : ℕ → X) (cs : List ℕ) (k : ℕ) (d : X) → k < length cs → get_or (map g cs) k d ≡ g (get_or cs k 0)
get_or_map g [] k d low = absurd (omega arith)
get_or_map g (c ∷ cs) zero d low = refl
get_or_map g (c ∷ cs) (suc k) d low = get_or_map g cs k d (omega arith)

pub length_fresh : (cs : List ℕ) → length (map fresh cs) ≡ length cs
length_fresh [] = refl
length_fresh (c ∷ cs) = ap suc (length_fresh cs)

pub none_raised : (capacities : List ℕ) → is_raised (map fresh capacities) ≡ false
none_raised [] = refl
none_raised (c ∷ cs) = none_raised cs

-- such rows are those of nine empty lanes
pub empty_lanes : (name : List ℕ) (rows counts lanes : List Row) (capacities : List ℕ) → length capacities ≡ LANES → rows ≡ [] → counts ≡ []
    → lanes ≡ figures_rows 0 (map fresh capacities) → HoldsLanes name rows counts lanes (empty_buffer capacities) (map fresh capacities)
empty_lanes name rows counts lanes capacities nine none uncounted filled = record {
  queued = [];
  queue_is = IsPermutation-same [] rows (sym none);
  lanes_is = IsPermutation-same (figures_rows 0 (map fresh capacities)) lanes (sym filled);
  counted = inl (uncounted, refl);
  rise = tt;
  up_to_last = tt;
  low = tt;
  nine = length_fresh capacities ∙ nine;
  lanes = λ k low. get_or_map empty_lane capacities k no_lane (omega (arith, nine))
      ∙ sym (ap (λ (fig : Figures). record { capacity = fig.capacity; rows = []; lost = fig.lost })
      (get_or_map fresh capacities k no_figures (omega (arith, nine))));
}

pub made_empty : (db : Database) (capacities : List ℕ) → length capacities ≡ LANES → HasLanes db (map fresh capacities)
    → HoldsBuffer db.trees (empty_buffer capacities)
made_empty db capacities nine has = record {
  figures = map fresh capacities;
  form = (pos 1, has.holds.number);
  lanes = empty_lanes (codes "queue") (db.trees 1) (db.trees 2) (db.trees 3) capacities nine has.holds.empty.0 has.holds.empty.1 has.filled;
  overflow = sym (none_raised capacities);
}
