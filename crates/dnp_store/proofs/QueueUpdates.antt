-- What an UPDATE makes of a queue's lanes.
use Rattle.std.proofs.Common.{◌≡◌, ◌≢◌, ℕ, zero, suc, ◌+◌, ◌<◌, pos, negsuc, List, [], ◌∷◌, map, filter, codes, length, set, ℤ, not, cond, Bool, true, false, None, Ok, Option, refl, sym, ap, subst, subst₂, ◌∙◌, ◌==◌, arith, int_cmp}
use Rattle.std.specs.List.{list_all, AllByRecursion}
use Rattle.sqlite_tied.specs.Compute.{everything}
use Rattle.sqlite_sql.specs.declared.ops.BinaryOp.TheVariants.{Compare}
use Rattle.sqlite_sql.specs.declared.ops.CompareOp.TheVariants.{Eq}
use Rattle.sqlite.specs.Collation.TheVariants.{Binary}
use Rattle.sqlite.specs.declared.types.Value.TheVariants.{Null, Int}
use Rattle.sqlite.specs.Query.{Query, inner, end, IsAnswer, output, Output}
use Rattle.sqlite.specs.Term.{Term, lit, col, op1, op2, holds}
use Rattle.sqlite.specs.Command.TheVariants.{Update}
use Rattle.sqlite.specs.Listing.{understood}
use Rattle.sqlite.specs.Given.{IsPlain}
use Rattle.sqlite.proofs.Callers.{command_of, statement_of, runs_as, one_step}
use Rattle.std.proofs.Common.{Greater}
use Rattle.std.specs.Prelude.{slice_index_or, if◌then◌else◌}
use Rattle.std.specs.List.Sorted.{IsPermutation}
use Rattle.std.proofs.lemmas.Simd.{map-map}
use Rattle.std.proofs.lemmas.Int.{ints}
use Rattle.sqlite_value.proofs.OrderLemmas.{value_cmp-Int}
use Rattle.sqlite.specs.Order.{Row, column, value_cmp}
use Rattle.sqlite.specs.Ops.{binary, is_true}
use Rattle.sqlite.specs.Program.{overlay}
use Rattle.sqlite.specs.Tree.{Trees, rowid, has_rowid, put_row, without_rowid}
use Rattle.sqlite.specs.declared.types.Value.{Value}
use Rattle.std.proofs.lemmas.List.Sorted.{IsPermutation-sym, IsPermutation-cons, IsPermutation-trans}
use Rattle.sqlite_trees.proofs.ListLemmas.{IsPermutation-filter}
use Rattle.sqlite.specs.Edit.{edit_of, put_all}
use Rattle.sqlite.specs.Cast.{cast_row}
use Rattle.sqlite.specs.Rowids.TheVariants.{Given}
use Rattle.sqlite.specs.Effect.{Database}
use Rattle.sqlite.specs.Does.{Does, OnRows}
use Rattle.sqlite.specs.Rows.{Task, Written, Updates}
use Rattle.sqlite.specs.State.{State, Executes, mode_of}
use Rattle.sqlite.proofs.Callers.{one_permutation}
use Rattle.sqlite_rules.specs.Calls.{ids_of}
use Rattle.sqlite_schema.specs.declared.schema.Keys.TheVariants.{Enforced}
use Rattle.dnp_store.specs.Texts.{lanes_update}
use Rattle.dnp_store.specs.QueueTables.{Figures, no_figures, figures_cells, figures_rows}
use Rattle.dnp_store.specs.PairTables.{Checks, lanes_tree, pair_names, pair_schema}
use Rattle.dnp_store.proofs.Statements.{IsRead, command_read, plain_read, at_table, went, written, same_value}
use Rattle.dnp_store.proofs.Counting.{cast_int, cast_null}
use Rattle.dnp_store.proofs.Recounting.{others_left}
use Rattle.dnp_store.proofs.IdRows.{is_less, put_apart}
use Rattle.dnp_store.specs.declared.queue_side.QueueSide.{QueueSide}
use Rattle.dnp_store.specs.declared.queue_side.QueueSide.TheVariants.{First, Second}
use Rattle.dnp_store.proofs.PairSchema.{lanes_low, lanes_of, lanes_read, lanes_there, quiet_pair, trees_pair}
use Rattle.dnp_store.proofs.Apart.{others_kept}
use Rattle.dnp_store.specs.Tables.{AreBehind}
use Rattle.dnp_store.proofs.QueueDeletes.{passes_on, and_true}
use Rattle.dnp_store.proofs.Tests.{eq_holds, has_is, is_same, is_other}

abbrev pub update_text : QueueSide → List ℕ
update_text = lanes_update

abbrev query : ℕ → Query
query tree = record {
  from = inner tree end;
  filter = op2 (Compare Eq Binary) (col 1 0) (col 0 0) ∷ [];
  group = None;
  project = col 1 0 ∷ col 1 0 ∷ lit Null ∷ col 1 2 ∷ col 0 1 ∷ col 0 2 ∷ [];
  distinct = false;
  collations = [];
  order = [];
  limit = lit (Int (negsuc 0));
  offset = lit (Int (pos 0));
}

update_read : (side : QueueSide) (c : Checks)
    → IsRead (Update (lanes_tree side) (record { lets = []; body = query (lanes_tree side) })) (understood (pair_schema c) (update_text side))
unfolding understood everything
update_read First c = (refl, refl, refl)
update_read Second c = (refl, refl, refl)

update_is : (side : QueueSide) (c : Checks)
    → command_of (understood (pair_schema c) (update_text side)) ≡ Update (lanes_tree side) (record { lets = []; body = query (lanes_tree side) })
update_is side c = command_read _ (understood (pair_schema c) (update_text side)) (update_read side c)

update_plain : (side : QueueSide) (c : Checks) → IsPlain (understood (pair_schema c) (update_text side))
update_plain side c = plain_read _ (understood (pair_schema c) (update_text side)) (update_read side c)

-- ---- the lanes by their numbers

abbrev cells_row : ℕ → Figures → Row
cells_row number f = Int (pos number) ∷ figures_cells f

is_more : (a b : ℕ) → a < b → value_cmp (Int (pos b)) (Int (pos a)) ≡ Greater
is_more a b h = value_cmp-Int (pos b) (pos a) ∙ more a b h
  where
    more : (a b : ℕ) → a < b → int_cmp (pos b) (pos a) ≡ Greater
    more a b h = grind (h, arith, ints)

kept_over : (k n : ℕ) (fs : List Figures) → k < n → without_rowid (pos k) (figures_rows n fs) ≡ figures_rows n fs
kept_over k n [] low = refl
kept_over k n (f ∷ fs) low = rw (has_is n k, is_other n k (λ e. absurd (omega arith)))
    (ap (λ rows. cells_row n f ∷ rows) (kept_over k (n + 1) fs (omega arith)))

put_first : (k n : ℕ) (new : Figures) (fs : List Figures) → k < n → put_row (cells_row k new) (figures_rows n fs) ≡ cells_row k new ∷ figures_rows n fs
put_first k n new [] low = refl
put_first k n new (f ∷ fs) low = rw (is_more k n low) refl

-- one lane's figures are replaced
replaced : (j k n : ℕ) (new : Figures) (fs : List Figures) → k ≡ n + j → j < length fs
    → put_row (cells_row k new) (without_rowid (pos k) (figures_rows n fs)) ≡ figures_rows n (set fs j new)
replaced j k n new [] is low = absurd (omega arith)
replaced zero k n new (f ∷ fs) is low =
    let same : k ≡ n = omega arith in
    subst (λ (m : ℕ). put_row (cells_row m new) (without_rowid (pos m) (figures_rows n (f ∷ fs))) ≡ figures_rows n (new ∷ fs)) (sym same) (first n new f fs)
  where
    first : (n : ℕ) (new f : Figures) (fs : List Figures) → put_row (cells_row n new) (without_rowid (pos n) (figures_rows n (f ∷ fs))) ≡ figures_rows n
        (new ∷ fs)
    first n new f fs = rw (has_is n n, is_same n) (ap (put_row (cells_row n new)) (kept_over n (n + 1) fs (omega arith))
        ∙ put_first n (n + 1) new fs (omega arith))
replaced (suc j) k n new (f ∷ fs) is low =
    rw (has_is n k, is_other n k (λ e. absurd (omega arith)))
    (rw (is_less n k (omega arith)) (ap (λ rows. cells_row n f ∷ rows) (replaced j k (n + 1) new fs (omega arith) (omega arith))))

-- ---- the row that is found

abbrev is_found : Row → Row → Bool
is_found params row = list_all (holds (params ∷ row ∷ [])) (op2 (Compare Eq Binary) (col 1 0) (col 0 0) ∷ [])

abbrev pub update_params : ℕ → ℕ → Bool → Row
update_params number lost raised = Int (pos number) ∷ Int (pos lost) ∷ Int (if raised then pos 1 else pos 0) ∷ []

found_is : (number lost n : ℕ) (raised : Bool) (f : Figures) → is_found (update_params number lost raised) (cells_row n f) ≡ (n == number)
found_is number lost n raised f = and_true (is_true (binary (Compare Eq Binary) (Int (pos n)) (Int (pos number)))) ∙ eq_holds n number

none_over : (number lost n : ℕ) (raised : Bool) (fs : List Figures) → number < n → filter (is_found (update_params number lost raised)) (figures_rows n fs) ≡ []
none_over number lost n raised [] low = refl
none_over number lost n raised (f ∷ fs) low =
    rw (found_is number lost n raised f, is_other n number (λ e. absurd (omega arith))) (none_over number lost (n + 1) raised fs (omega arith))

one : (j number lost n : ℕ) (raised : Bool) (fs : List Figures) → number ≡ n + j → j < length fs
    → filter (is_found (update_params number lost raised)) (figures_rows n fs) ≡ cells_row number (slice_index_or fs j no_figures) ∷ []
one j number lost n raised [] is low = absurd (omega arith)
one zero number lost n raised (f ∷ fs) is low =
    let same : n ≡ number = omega arith in
    rw (found_is number lost n raised f, same, is_same number)
    (ap (λ rows. cells_row number f ∷ rows) (none_over number lost (number + 1) raised fs (omega arith)))
one (suc j) number lost n raised (f ∷ fs) is low =
    rw (found_is number lost n raised f, is_other n number (λ e. absurd (omega arith))) (one j number lost (n + 1) raised fs (omega arith) (omega arith))

made : Row → Row → Output
made params r = ([], column r 0 ∷ column r 0 ∷ Null ∷ column r 2 ∷ column params 1 ∷ column params 2 ∷ [])

-- the outputs of the query, in some order
matched : (tree : ℕ) (params : Row) (db : Trees) (rows : List Row) → IsAnswer (query tree) (overlay db []) params rows → overlay db [] tree ≡ db tree
    → (ordered : List Output) × IsPermutation (map (made params) (filter (is_found params) (db tree))) ordered × (rows ≡ map (λ (o : Output). o.1) ordered)
unfolding made
matched tree params db rows a same =
    let few = filter (is_found params) (db tree) in
    let staged : a.staged ≡ map (λ r. params ∷ r ∷ []) few = a.grouped
    ∙ passes_on (is_found params) (λ r. params ∷ r ∷ []) (overlay db [] tree) ∙ ap (λ rs. map (λ r. params ∷ r ∷ []) (filter (is_found params) rs)) same in
    let kept : a.kept ≡ map (made params) few = a.distinct ∙ ap (map (output (query tree))) staged ∙ map-map (output (query tree)) (λ r. params ∷ r ∷ []) few in
    (a.ordered, subst (λ k. IsPermutation k a.ordered) kept a.same, a.shown)

-- ---- rows in any order

-- a row in place of the one with its rowid leaves the same rows, in whatever order they stood
put_in_turn : (cells : List Value) (number : ℕ) (xs ys : List Row) → IsPermutation xs ys
    → IsPermutation (put_row (Int (pos number) ∷ cells) (without_rowid (pos number) xs)) (put_row (Int (pos number) ∷ cells) (without_rowid (pos number) ys))
put_in_turn cells number xs ys same =
    let row : Row = Int (pos number) ∷ cells in
    let kept : Row → Bool = λ r. not (has_rowid (pos number) r) in
    IsPermutation-trans _ _ _ (IsPermutation-sym _ _ (put_apart row (without_rowid (pos number) xs) (others_left (pos number) xs)))
    (IsPermutation-trans _ _ _ (IsPermutation-cons row _ _ (IsPermutation-filter kept xs ys same))
    (put_apart row (without_rowid (pos number) ys) (others_left (pos number) ys)))

-- ---- the statement

abbrev pub noted_as : Figures → ℕ → Bool → Figures
noted_as f lost raised = record { capacity = f.capacity; lost = lost; raised = raised }

-- one lane's figures are replaced, and no other tree changes
pub record Notes (many tree : ℕ) (db : Trees) (number lost : ℕ) (raised : Bool) (fs : List Figures) (now : Trees) : Type 0 where
  pub table : IsPermutation (figures_rows 0 (set fs number (noted_as (slice_index_or fs number no_figures) lost raised))) (now tree)
  pub others : (t : ℕ) → t < many → t ≢ tree → now t ≡ db t

abbrev task : QueueSide → Checks → Option ℕ → Row → Task
task side c limit params = record { limit = limit; keys = Enforced; schema = pair_schema c; table = lanes_of side c; params = params }

casts : (side : QueueSide) (c : Checks) (number : ℕ) (f : Figures) → cast_row (lanes_of side c) (cells_row number f) ≡ cells_row number f
casts side c number f = rw (cast_int (pos number), cast_null, cast_int (pos f.capacity), cast_int (pos f.lost), cast_int (if f.raised then pos 1 else pos 0)) refl

notes : (side : QueueSide) (c : Checks) → AreBehind pair_names c.more
    → (limit : Option ℕ) (number lost : ℕ) (raised : Bool) (fs : List Figures) (db : Trees) (a : Written)
    → IsPermutation (figures_rows 0 fs) (db (lanes_tree side)) → number < length fs
    → Updates (task side c limit (update_params number lost raised)) (record { lets = []; body = query (lanes_tree side) }) (update_params number lost raised)
    db (Ok a)
    → Notes 6 (lanes_tree side) db number lost raised fs a.trees
unfolding everything made
notes side c behind limit number lost raised fs db a is low h =
    let tree = lanes_tree side in
    let params = update_params number lost raised in
    let old = slice_index_or fs number no_figures in
    let new = noted_as old lost raised in
    let queried = went h in
    let found = matched tree params db queried.0 (queried.1.answer Null) (lanes_read side db) in
    let few : filter (is_found params) (db tree) ≡ cells_row number old ∷ [] = one_permutation _ (filter (is_found params) (db tree))
    (subst (λ rs. IsPermutation rs (filter (is_found params) (db tree))) (one number number lost 0 raised fs (omega arith) low)
    (IsPermutation-filter (is_found params) (figures_rows 0 fs) (db tree) is)) in
    let ordered : found.0 ≡ made params (cells_row number old) ∷ [] = one_permutation _ found.0
    (subst (λ rows. IsPermutation (map (made params) rows) found.0) few found.1) in
    let rows : queried.0 ≡ (Int (pos number) ∷ cells_row number new) ∷ [] = found.2 ∙ ap (map (λ (o : Output). o.1)) ordered in
    let edited_to = went queried.2 in
    let out = same_value edited_to.2 in
    let edit = λ (rs : List Row). edit_of db (lanes_of side c) (ids_of rs) Given 1 rs in
    let step = one_step (pair_schema c) Enforced db edited_to.0 (edit queried.0) (quiet_pair c behind db (edit queried.0) (lanes_low side)) edited_to.1 in
    let row = cells_row number new in
    let made_of : a.trees tree ≡ put_row row (without_rowid (pos number) (db tree)) = ap (λ (w : Written). w.trees tree) out ∙ step.rows
    ∙ ap (λ rs. put_all (Rattle.sqlite.specs.Edit.without_all (db tree) (edit rs).gone) (edit rs).news) rows
    ∙ ap (λ r. put_row r (without_rowid (pos number) (db tree))) (casts side c number new) in
    record {
      table = subst₂ IsPermutation (replaced number number 0 new fs (omega arith) low) (sym made_of) (put_in_turn (figures_cells new) number (figures_rows 0 fs) (db tree) is);
      others = λ t low not_it. ap (λ (w : Written). w.trees t) out
          ∙ others_kept (pair_schema c) 6 (trees_pair c) db edited_to.0 (edit queried.0) step t low not_it;
    }

pub updates : (side : QueueSide) (old new : State) (c : Checks) → AreBehind pair_names c.more → (number lost count : ℕ) (raised : Bool) (fs : List Figures)
    → old.now.schema ≡ pair_schema c
    → IsPermutation (figures_rows 0 fs) (old.now.trees (lanes_tree side))
    → number < length fs → Executes (update_text side) (update_params number lost raised) old new (Ok count)
    → (new.now.schema ≡ pair_schema c) × Notes 6 (lanes_tree side) old.now.trees number lost raised fs new.now.trees
updates side old new c behind number lost count raised fs has is low h =
    let params = update_params number lost raised in
    let command = Update (lanes_tree side) (record { lets = []; body = query (lanes_tree side) }) in
    let w = runs_as (update_text side) params old new (pair_schema c) has command (update_is side c) (update_plain side c) count h in
    let the_task = task side c old.step_limit params in
    let does = subst (λ s. Does old.step_limit (mode_of old) params (record old.now { schema = s })
    (statement_of (update_text side) (understood (pair_schema c) (update_text side))) None command (Ok (w.tally, new.now))) has w.changed in
    let on = at_table (λ t. OnRows (record the_task { table = t }) (mode_of old) None command old.now.trees) (pair_schema c).tables (lanes_tree side)
    (lanes_of side c) (Ok (w.tally, new.now)) (lanes_there side c) does in
    let done = written the_task (mode_of old) command old.now.trees w.tally new.now on in
    let took = notes side c behind old.step_limit number lost raised fs old.now.trees done.0 is low done.1 in (
      ap (λ (d : Database). d.schema) done.2,
      subst (λ (d : Database). Notes 6 (lanes_tree side) old.now.trees number lost raised fs d.trees) (sym done.2) took,
    )
