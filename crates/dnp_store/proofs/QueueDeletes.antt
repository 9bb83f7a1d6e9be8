-- What a DELETE takes out of a queue's table.
use Rattle.std.proofs.lemmas.Simd.{map-map}
use Rattle.std.proofs.Common.{◌≡◌, ◌<◌, ◌≢◌, ℕ, pos, negsuc, List, [], ◌∷◌, ◌++◌, map, filter, Bool, true, false, not, cond, None, Ok, Option, refl, sym, ap, ap₂, subst, subst₂, ◌∙◌, ◌&&◌, nat_le, ◌==◌}
use Rattle.std.specs.List.{list_all, AllByRecursion}
use Rattle.std.specs.List.Sorted.{IsPermutation}
use Rattle.std.specs.Prelude.{flat_map}
use Rattle.sqlite_tied.specs.Compute.{everything}
use Rattle.sqlite_sql.specs.declared.ops.BinaryOp.TheVariants.{Compare}
use Rattle.sqlite_sql.specs.declared.ops.CompareOp.TheVariants.{Eq, Le}
use Rattle.sqlite_sql.specs.declared.ops.UnaryOp.TheVariants.{ToNumeric}
use Rattle.sqlite.specs.Collation.TheVariants.{Binary}
use Rattle.sqlite.specs.declared.types.Value.TheVariants.{Null, Int}
use Rattle.sqlite.specs.Query.{Query, inner, end, IsAnswer, output, Output}
use Rattle.sqlite.specs.Program.{overlay}
use Rattle.sqlite.specs.Term.{Term, lit, col, op1, op2, holds}
use Rattle.sqlite.specs.Order.{Row}
use Rattle.sqlite.specs.Ops.{binary, is_true}
use Rattle.dnp_store.specs.Texts.{rows_delete}
use Rattle.dnp_store.proofs.Tests.{numeric_is, eq_holds, le_holds}
use Rattle.dnp_store.proofs.IdRows as id_rows
use Rattle.dnp_store.specs.QueueTables.{queued_cells}
use Rattle.sqlite.specs.Tree.{Trees, rowid}
use Rattle.sqlite_trees.proofs.ListLemmas.{IsPermutation-filter}
use Rattle.sqlite.specs.Edit.{without_all, edit_of}
use Rattle.sqlite.specs.Effect.{Database}
use Rattle.sqlite.specs.Does.{Does, OnRows}
use Rattle.sqlite.specs.Command.TheVariants.{Delete}
use Rattle.sqlite.specs.Listing.{understood}
use Rattle.sqlite.specs.Given.{IsPlain}
use Rattle.sqlite.specs.Rowids.TheVariants.{Given}
use Rattle.sqlite.specs.Rows.{Written, Deletes}
use Rattle.sqlite.specs.State.{State, Executes, mode_of}
use Rattle.sqlite.proofs.Callers.{command_of, statement_of, runs_as, one_step}
use Rattle.sqlite_rules.specs.Calls.{ids_of}
use Rattle.sqlite_schema.specs.declared.schema.Keys.TheVariants.{Enforced}
use Rattle.dnp_store.specs.QueueTables.{queue_columns, Queued, queued_row}
use Rattle.dnp_store.specs.PairTables.{Checks, pair_names, pair_schema, rows_name, rows_tree}
use Rattle.dnp_store.proofs.Statements.{IsRead, command_read, plain_read, at_table, went, written, same_value}
use Rattle.dnp_store.proofs.Without.{HasInt, deleted}
use Rattle.dnp_store.proofs.Counting as counting
use Rattle.dnp_store.specs.declared.queue_side.QueueSide.{QueueSide}
use Rattle.dnp_store.specs.declared.queue_side.QueueSide.TheVariants.{First, Second}
use Rattle.dnp_store.proofs.PairSchema.{quiet_pair, rows_checks, rows_low, rows_read, rows_there, rows_with, trees_pair}
use Rattle.dnp_store.proofs.Apart.{others_kept}
use Rattle.dnp_store.specs.Tables.{AreBehind}

abbrev pub delete_text : QueueSide → List ℕ
delete_text = rows_delete

abbrev tests : List Term
tests = op2 (Compare Eq Binary) (col 1 2) (op1 ToNumeric (col 0 0)) ∷ op2 (Compare Le Binary) (col 1 0) (col 0 1) ∷ []

abbrev query : ℕ → Query
query tree = record {
  from = inner tree end;
  filter = tests;
  group = None;
  project = col 1 0 ∷ [];
  distinct = false;
  collations = [];
  order = [];
  limit = lit (Int (negsuc 0));
  offset = lit (Int (pos 0));
}

delete_read : (side : QueueSide) (c : Checks)
    → IsRead (Delete (rows_tree side) (record { lets = []; body = query (rows_tree side) })) (understood (pair_schema c) (delete_text side))
unfolding understood everything
delete_read First c = (refl, refl, refl)
delete_read Second c = (refl, refl, refl)

delete_is : (side : QueueSide) (c : Checks)
    → command_of (understood (pair_schema c) (delete_text side)) ≡ Delete (rows_tree side) (record { lets = []; body = query (rows_tree side) })
delete_is side c = command_read _ (understood (pair_schema c) (delete_text side)) (delete_read side c)

delete_plain : (side : QueueSide) (c : Checks) → IsPlain (understood (pair_schema c) (delete_text side))
delete_plain side c = plain_read _ (understood (pair_schema c) (delete_text side)) (delete_read side c)

abbrev pub delete_params : ℕ → ℕ → Row
delete_params number upto = Int (pos number) ∷ Int (pos upto) ∷ []

-- a row that the statement takes
abbrev is_taken_by : Row → Row → Bool
is_taken_by params row = list_all (holds (params ∷ row ∷ [])) tests

pub and_true : (b : Bool) → (b && true) ≡ b
and_true true = refl
and_true false = refl

-- in numbers
taken_is : (number upto : ℕ) (x : Queued) → is_taken_by (delete_params number upto) (queued_row x) ≡ (x.lane == number) && nat_le x.id upto
unfolding everything
taken_is number upto x =
    ap₂ (λ a b. a && (b && true)) (ap (λ v. is_true (binary (Compare Eq Binary) (Int (pos x.lane)) v)) (numeric_is (pos number)) ∙ eq_holds x.lane number)
    (le_holds x.id upto)
    ∙ ap (λ b. (x.lane == number) && b) (and_true (nat_le x.id upto))

pub passes_on : {X Y : Type 0} (p : X → Bool) (f : X → Y) (xs : List X) → flat_map (λ x. cond (p x) (f x ∷ []) []) xs ≡ map f (filter p xs)
passes_on p f [] = refl
passes_on p f (x ∷ xs) = go (p x) (passes_on p f xs)
  where
    go : (b : Bool) → flat_map (λ y. cond (p y) (f y ∷ []) []) xs ≡ map f (filter p xs)
        → cond b (f x ∷ []) [] ++ flat_map (λ y. cond (p y) (f y ∷ []) []) xs ≡ map f (cond b (x ∷ filter p xs) (filter p xs))
    go true h = ap (λ ys. f x ∷ ys) h
    go false h = h

-- the outputs of the query, in some order
taken : (tree : ℕ) (params : Row) (db : Trees) (rows : List Row) → IsAnswer (query tree) (overlay db []) params rows → overlay db [] tree ≡ db tree
    → (ordered : List Output)
    × IsPermutation (map (λ r. ([], rowid r ∷ [])) (filter (is_taken_by params) (db tree))) ordered × (rows ≡ map (λ (o : Output). o.1) ordered)
taken tree params db rows a same =
    let few = filter (is_taken_by params) (db tree) in
    let staged : a.staged ≡ map (λ r. params ∷ r ∷ []) few = a.grouped
    ∙ passes_on (is_taken_by params) (λ r. params ∷ r ∷ []) (overlay db [] tree) ∙ ap (λ rs. map (λ r. params ∷ r ∷ []) (filter (is_taken_by params) rs)) same in
    let made : Row → Output = λ r. ([], rowid r ∷ []) in
    let kept : a.kept ≡ map made few = a.distinct ∙ ap (map (output (query tree))) staged ∙ map-map (output (query tree)) (λ r. params ∷ r ∷ []) few in
    (a.ordered, subst (λ k. IsPermutation k a.ordered) kept a.same, a.shown)

-- a row that is above the number or in another lane
abbrev pub stays : ℕ → ℕ → Queued → Bool
stays number upto x = not ((x.lane == number) && nat_le x.id upto)

left : (number upto : ℕ) (xs : List Queued) → filter (λ r. not (is_taken_by (delete_params number upto) r)) (map queued_row xs) ≡ map queued_row
    (filter (stays number upto) xs)
left number upto [] = refl
left number upto (x ∷ xs) =
    ap₂ (λ b (rows : List Row). cond (not b) (queued_row x ∷ rows) rows) (taken_is number upto x) (left number upto xs) ∙ go (stays number upto x)
  where
    go : (b : Bool) → cond b (queued_row x ∷ map queued_row (filter (stays number upto) xs)) (map queued_row (filter (stays number upto) xs)) ≡ map
        queued_row (cond b (x ∷ filter (stays number upto) xs) (filter (stays number upto) xs))
    go true = refl
    go false = refl

have_int : (xs : List Queued) → AllByRecursion HasInt (map queued_row xs)
have_int [] = tt
have_int (x ∷ xs) = ((pos x.id, refl), have_int xs)

-- the rows of a lane up to an id leave the table, and no other tree changes
pub record Takes (many tree : ℕ) (db : Trees) (number upto : ℕ) (xs : List Queued) (now : Trees) : Type 0 where
  pub table : IsPermutation (map queued_row (filter (stays number upto) xs)) (now tree)
  pub others : (t : ℕ) → t < many → t ≢ tree → now t ≡ db t

takes : (side : QueueSide) (c : Checks) → AreBehind pair_names c.more → (limit : Option ℕ) (number upto : ℕ) (xs : List Queued) (db : Trees) (a : Written)
    → IsPermutation (map queued_row xs) (db (rows_tree side))
    → id_rows.Rise (λ (x : Queued). x.id) queued_cells xs
    → Deletes (counting.task (rows_name side) (rows_tree side) queue_columns (rows_checks side c) (pair_schema c) limit (delete_params number upto))
    (record { lets = []; body = query (rows_tree side) }) db (Ok a)
    → Takes 6 (rows_tree side) db number upto xs a.trees
unfolding everything
takes side c behind limit number upto xs db a is rise h =
    let tree = rows_tree side in
    let params = delete_params number upto in
    let queried = went h in
    let found = taken tree params db queried.0 (queried.1.answer Null) (rows_read side db) in
    let edited_to = went queried.2 in
    let out = same_value edited_to.2 in
    let edit = edit_of db (rows_with side c) (ids_of queried.0) Given 0 [] in
    let step = one_step (pair_schema c) Enforced db edited_to.0 edit (quiet_pair c behind db edit (rows_low side)) edited_to.1 in
    let table = id_rows.is_table (λ (x : Queued). x.id) queued_cells xs rise in
    let rest : Row → Bool = λ r. not (is_taken_by params r) in
    let gone : a.trees tree ≡ filter rest (db tree) = ap (λ (w : Written). w.trees tree) out ∙ step.rows
    ∙ ap (λ rows. without_all (db tree) (ids_of rows)) found.2
    ∙ deleted (is_taken_by params) (map queued_row xs) (db tree) found.0 table (have_int xs) is found.1 in
    record {
      table = subst₂ IsPermutation (left number upto xs) (sym gone) (IsPermutation-filter rest (map queued_row xs) (db tree) is);
      others = λ t low not_it. ap (λ (w : Written). w.trees t) out ∙ others_kept (pair_schema c) 6 (trees_pair c) db edited_to.0 edit step t low not_it;
    }

pub deletes : (side : QueueSide) (old new : State) (c : Checks) → AreBehind pair_names c.more → (number upto count : ℕ) (xs : List Queued)
    → old.now.schema ≡ pair_schema c
    → IsPermutation (map queued_row xs) (old.now.trees (rows_tree side))
    → id_rows.Rise (λ (x : Queued). x.id) queued_cells xs → Executes (delete_text side) (delete_params number upto) old new (Ok count)
    → (new.now.schema ≡ pair_schema c) × Takes 6 (rows_tree side) old.now.trees number upto xs new.now.trees
deletes side old new c behind number upto count xs has is rise h =
    let params = delete_params number upto in
    let command = Delete (rows_tree side) (record { lets = []; body = query (rows_tree side) }) in
    let w = runs_as (delete_text side) params old new (pair_schema c) has command (delete_is side c) (delete_plain side c) count h in
    let task = counting.task (rows_name side) (rows_tree side) queue_columns (rows_checks side c) (pair_schema c) old.step_limit params in
    let does = subst (λ s. Does old.step_limit (mode_of old) params (record old.now { schema = s })
    (statement_of (delete_text side) (understood (pair_schema c) (delete_text side))) None command (Ok (w.tally, new.now))) has w.changed in
    let on = at_table (λ t. OnRows (record task { table = t }) (mode_of old) None command old.now.trees) (pair_schema c).tables (rows_tree side)
    (rows_with side c) (Ok (w.tally, new.now)) (rows_there side c) does in
    let done = written task (mode_of old) command old.now.trees w.tally new.now on in
    let took = takes side c behind old.step_limit number upto xs old.now.trees done.0 is rise done.1 in
    (ap (λ (d : Database). d.schema) done.2, subst (λ (d : Database). Takes 6 (rows_tree side) old.now.trees number upto xs d.trees) (sym done.2) took)
