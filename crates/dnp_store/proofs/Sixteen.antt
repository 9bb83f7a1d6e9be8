-- One statement of sixteen rows, as if it were sixteen of a row each.
use Rattle.std.proofs.Common.{◌≡◌, ◌≢◌, inr, ℕ, suc, ◌+◌, ◌<◌, ◌≤◌, ◌==◌, pos, List, [], ◌∷◌, ◌++◌, length, map, set, get_or, take, drop, cond, true, Option, Some, Ok, refl, sym, ap, ap₂, subst, ◌∙◌, arith}
use Rattle.std.specs.List.{AllByRecursion}
use Rattle.sqlite_tied.specs.Compute.{everything}
use Rattle.sqlite.specs.declared.types.Value.TheVariants.{Null, Int}
use Rattle.std.specs.List.{flat_map}
use Rattle.std.proofs.lemmas.List.{map-append, take_more, take_more_set}
use Rattle.sqlite_value.specs.declared.value.ValueRef.{ValueRef}
use Rattle.sqlite_value.specs.Value.{owned}
use Rattle.sqlite.specs.Values.{bound, bound_value}
use Rattle.sqlite.specs.Command.TheVariants.{Insert}
use Rattle.sqlite.specs.Source.TheVariants.{Values}
use Rattle.sqlite.specs.Term.{Term, lit, col}
use Rattle.sqlite.specs.Order.{Row}
use Rattle.sqlite.specs.Tree.{Trees, put_row}
use Rattle.sqlite.specs.Rows.{Sourced, stamped, sequence as counters_of}
use Rattle.sqlite.specs.Schema.{Schema}
use Rattle.sqlite.specs.Table.{Table}
use Rattle.sqlite_schema.specs.declared.schema.Column.{Column}
use Rattle.sqlite_schema.specs.declared.schema.Keys.TheVariants.{Enforced}
use Rattle.sqlite_rules.specs.Action.{works}
use Rattle.std.specs.Prelude.{slice_get}
use Rattle.sqlite.specs.Cast.{cast_row}
use Rattle.sqlite.specs.Edit.{Edit, next_rowid, taken_by}
use Rattle.sqlite.specs.Listing.{understood}
use Rattle.sqlite.specs.Given.{IsPlain}
use Rattle.sqlite.specs.State.{State, Executes}
use Rattle.sqlite.proofs.Callers.{command_of}
use Rattle.dnp_store.specs.Tables.{AreBehind, count_row, counts_of, sequence, table_of, IsCounted}
use Rattle.dnp_store.specs.QueueTables.{Queued}
use Rattle.dnp_store.specs.declared.store_kind.StoreKind.{StoreKind}
use Rattle.dnp_store.specs.steps.Stores.{More, columns_of, more_with, name_of, names_of, rows_with, schema_for}
use Rattle.dnp_store.proofs.Apart.{AreTrees}
use Rattle.dnp_store.proofs.Tests.{is_other}
use Rattle.dnp_store.proofs.IdRows.{IsUnder}
use Rattle.dnp_store.proofs.Counting.{PutsAt, PutsAll, PutsAllIn, puts_all_at}
use Rattle.dnp_store.proofs.Recounting.{named_alone}
use Rattle.dnp_store.proofs.Inserting as inserting
use Rattle.dnp_store.proofs.QueueStatements.{whole_cells, insert_params}

-- ---- what such a statement says

abbrev pub terms_16 : List Term
terms_16 =
    lit Null ∷ lit Null ∷ col 0 0 ∷ col 0 1 ∷ col 0 2 ∷ col 0 3 ∷ col 0 4 ∷ lit Null ∷ lit Null ∷ col 0 5 ∷ col 0 6 ∷ col 0 7 ∷ col 0 8 ∷ col 0 9 ∷ lit
    Null ∷ lit Null ∷ col 0 10 ∷ col 0 11 ∷ col 0 12 ∷ col 0 13 ∷ col 0 14 ∷ lit Null ∷ lit Null ∷ col 0 15 ∷ col 0 16 ∷ col 0 17 ∷ col 0 18 ∷ col 0 19 ∷
    lit Null ∷ lit Null ∷ col 0 20 ∷ col 0 21 ∷ col 0 22 ∷ col 0 23 ∷ col 0 24 ∷ lit Null ∷ lit Null ∷ col 0 25 ∷ col 0 26 ∷ col 0 27 ∷ col 0 28 ∷ col 0
    29 ∷ lit Null ∷ lit Null ∷ col 0 30 ∷ col 0 31 ∷ col 0 32 ∷ col 0 33 ∷ col 0 34 ∷ lit Null ∷ lit Null ∷ col 0 35 ∷ col 0 36 ∷ col 0 37 ∷ col 0 38 ∷
    col 0 39 ∷ lit Null ∷ lit Null ∷ col 0 40 ∷ col 0 41 ∷ col 0 42 ∷ col 0 43 ∷ col 0 44 ∷ lit Null ∷ lit Null ∷ col 0 45 ∷ col 0 46 ∷ col 0 47 ∷ col 0
    48 ∷ col 0 49 ∷ lit Null ∷ lit Null ∷ col 0 50 ∷ col 0 51 ∷ col 0 52 ∷ col 0 53 ∷ col 0 54 ∷ lit Null ∷ lit Null ∷ col 0 55 ∷ col 0 56 ∷ col 0 57 ∷
    col 0 58 ∷ col 0 59 ∷ lit Null ∷ lit Null ∷ col 0 60 ∷ col 0 61 ∷ col 0 62 ∷ col 0 63 ∷ col 0 64 ∷ lit Null ∷ lit Null ∷ col 0 65 ∷ col 0 66 ∷ col 0
    67 ∷ col 0 68 ∷ col 0 69 ∷ lit Null ∷ lit Null ∷ col 0 70 ∷ col 0 71 ∷ col 0 72 ∷ col 0 73 ∷ col 0 74 ∷ lit Null ∷ lit Null ∷ col 0 75 ∷ col 0 76 ∷
    col 0 77 ∷ col 0 78 ∷ col 0 79 ∷ []

-- ---- what it is given, and what it puts in

abbrev pub params_of : List Queued → Row
params_of [] = []
params_of (x ∷ xs) = insert_params x ++ params_of xs

abbrev pub rests_of : List Queued → List Row
rests_of [] = []
rests_of (x ∷ xs) = whole_cells x ∷ rests_of xs

-- as one list after the other, whatever a row is made from
abbrev joined : List Row → Row
joined [] = []
joined (r ∷ rs) = r ++ joined rs

bound_joined : (given : List (List ValueRef)) → bound (flat_map (λ cells. cells) given) ≡ joined (map bound given)
bound_joined [] = refl
bound_joined (cells ∷ given) =
    map-append (λ (v : ValueRef). bound_value (owned v)) cells (flat_map (λ cells. cells) given) ∙ ap (λ (r : Row). bound cells ++ r) (bound_joined given)

joined_params : {X : Type 0} (row_of : X → Queued) (xs : List X) → joined (map (λ x. insert_params (row_of x)) xs) ≡ params_of (map row_of xs)
joined_params row_of [] = refl
joined_params row_of (x ∷ xs) = ap (λ (r : Row). insert_params (row_of x) ++ r) (joined_params row_of xs)

pub given_all : {X : Type 0} (row_of : X → Queued) (xs : List X) (given : List (List ValueRef)) → map bound given ≡ map (λ x. insert_params (row_of x)) xs
    → bound (flat_map (λ cells. cells) given) ≡ params_of (map row_of xs)
given_all row_of xs given same = bound_joined given ∙ ap joined same ∙ joined_params row_of xs

-- one row more is given
pub given_more : {X : Type 0} (row_of : X → Queued) (xs : List X) (given : List (List ValueRef)) (k : ℕ) (d : X) (cells : List ValueRef) → k < length given
    → k < length xs → bound cells ≡ insert_params (row_of (get_or xs k d)) → map bound (take k given) ≡ map (λ x. insert_params (row_of x)) (take k xs)
    → map bound (take (k + 1) (set given k cells)) ≡ map (λ x. insert_params (row_of x)) (take (k + 1) xs)
given_more {X} row_of xs given k d cells room some here before =
    let params = λ (x : X). insert_params (row_of x) in
    ap (map bound) (take_more_set given k cells room) ∙ map-append bound (take k given) (cells ∷ [])
    ∙ ap₂ (λ (rs : List Row) (r : Row). rs ++ r ∷ []) before here
    ∙ sym (map-append params (take k xs) (get_or xs k d ∷ [])) ∙ ap (map params) (sym (take_more xs k d some))

pub long_rests : (xs : List Queued) → length (rests_of xs) ≡ length xs
long_rests [] = refl
long_rests (x ∷ xs) = ap suc (long_rests xs)

module _ (name : List ℕ) (tree : ℕ) (columns : List Column) (checks : List Term) (schema : Schema) where
  abbrev table : Table
  table = table_of name tree columns true true checks

  sources_16 : (limit : Option ℕ) (db : Trees) (x0 x1 x2 x3 x4 x5 x6 x7 x8 x9 x10 x11 x12 x13 x14 x15 : Queued) (rows : List Row)
      → Sourced limit (record { schema = schema; trees = db }) (stamped table (params_of (
      x0 ∷ x1 ∷ x2 ∷ x3 ∷ x4 ∷ x5 ∷ x6 ∷ x7 ∷ x8 ∷ x9 ∷ x10 ∷ x11 ∷ x12 ∷ x13 ∷ x14 ∷ x15 ∷ []))) (Values terms_16 7) (Ok rows)
      → rows ≡ map (λ r. Null ∷ r) (rests_of (
      x0 ∷ x1 ∷ x2 ∷ x3 ∷ x4 ∷ x5 ∷ x6 ∷ x7 ∷ x8 ∷ x9 ∷ x10 ∷ x11 ∷ x12 ∷ x13 ∷ x14 ∷ x15 ∷ []))
  unfolding everything
  sources_16 limit db x0 x1 x2 x3 x4 x5 x6 x7 x8 x9 x10 x11 x12 x13 x14 x15 rows h = h.1

  given_16 : (limit : Option ℕ) (db : Trees) (xs : List Queued) → length xs ≡ 16 → (rows : List Row)
      → Sourced limit (record { schema = schema; trees = db }) (stamped table (params_of xs)) (Values terms_16 7) (Ok rows)
      → rows ≡ map (λ r. Null ∷ r) (rests_of xs)
  given_16 limit db [] long rows h = absurd (omega arith)
  given_16 limit db (x0 ∷ []) long rows h = absurd (omega arith)
  given_16 limit db (x0 ∷ x1 ∷ []) long rows h = absurd (omega arith)
  given_16 limit db (x0 ∷ x1 ∷ x2 ∷ []) long rows h = absurd (omega arith)
  given_16 limit db (x0 ∷ x1 ∷ x2 ∷ x3 ∷ []) long rows h = absurd (omega arith)
  given_16 limit db (x0 ∷ x1 ∷ x2 ∷ x3 ∷ x4 ∷ []) long rows h = absurd (omega arith)
  given_16 limit db (x0 ∷ x1 ∷ x2 ∷ x3 ∷ x4 ∷ x5 ∷ []) long rows h = absurd (omega arith)
  given_16 limit db (x0 ∷ x1 ∷ x2 ∷ x3 ∷ x4 ∷ x5 ∷ x6 ∷ []) long rows h = absurd (omega arith)
  given_16 limit db (x0 ∷ x1 ∷ x2 ∷ x3 ∷ x4 ∷ x5 ∷ x6 ∷ x7 ∷ []) long rows h = absurd (omega arith)
  given_16 limit db (x0 ∷ x1 ∷ x2 ∷ x3 ∷ x4 ∷ x5 ∷ x6 ∷ x7 ∷ x8 ∷ []) long rows h = absurd (omega arith)
  given_16 limit db (x0 ∷ x1 ∷ x2 ∷ x3 ∷ x4 ∷ x5 ∷ x6 ∷ x7 ∷ x8 ∷ x9 ∷ []) long rows h = absurd (omega arith)
  given_16 limit db (x0 ∷ x1 ∷ x2 ∷ x3 ∷ x4 ∷ x5 ∷ x6 ∷ x7 ∷ x8 ∷ x9 ∷ x10 ∷ []) long rows h = absurd (omega arith)
  given_16 limit db (x0 ∷ x1 ∷ x2 ∷ x3 ∷ x4 ∷ x5 ∷ x6 ∷ x7 ∷ x8 ∷ x9 ∷ x10 ∷ x11 ∷ []) long rows h = absurd (omega arith)
  given_16 limit db (x0 ∷ x1 ∷ x2 ∷ x3 ∷ x4 ∷ x5 ∷ x6 ∷ x7 ∷ x8 ∷ x9 ∷ x10 ∷ x11 ∷ x12 ∷ []) long rows h = absurd (omega arith)
  given_16 limit db (x0 ∷ x1 ∷ x2 ∷ x3 ∷ x4 ∷ x5 ∷ x6 ∷ x7 ∷ x8 ∷ x9 ∷ x10 ∷ x11 ∷ x12 ∷ x13 ∷ []) long rows h = absurd (omega arith)
  given_16 limit db (x0 ∷ x1 ∷ x2 ∷ x3 ∷ x4 ∷ x5 ∷ x6 ∷ x7 ∷ x8 ∷ x9 ∷ x10 ∷ x11 ∷ x12 ∷ x13 ∷ x14 ∷ []) long rows h = absurd (omega arith)
  given_16 limit db (x0 ∷ x1 ∷ x2 ∷ x3 ∷ x4 ∷ x5 ∷ x6 ∷ x7 ∷ x8 ∷ x9 ∷ x10 ∷ x11 ∷ x12 ∷ x13 ∷ x14 ∷ x15 ∷ []) long rows h =
      sources_16 limit db x0 x1 x2 x3 x4 x5 x6 x7 x8 x9 x10 x11 x12 x13 x14 x15 rows h
  given_16 limit db (x0 ∷ x1 ∷ x2 ∷ x3 ∷ x4 ∷ x5 ∷ x6 ∷ x7 ∷ x8 ∷ x9 ∷ x10 ∷ x11 ∷ x12 ∷ x13 ∷ x14 ∷ x15 ∷ x16 ∷ more) long rows h =
      absurd (omega arith)

  -- each row's cells stay as they are
  abbrev pub Stays : Queued → Type 0
  Stays x = cast_row table (Null ∷ whole_cells x) ≡ Null ∷ whole_cells x

  cast_all : ((x : Queued) → Stays x) → (xs : List Queued)
      → map (λ s. cast_row table (drop 0 s)) (map (λ r. Null ∷ r) (rests_of xs)) ≡ map (λ r. Null ∷ r) (rests_of xs)
  cast_all stays [] = refl
  cast_all stays (x ∷ xs) = ap₂ (λ (r : Row) (rs : List Row). r ∷ rs) (stays x) (cast_all stays xs)

  pub inserts_16_in : (many : ℕ) (is_listed : counters_of schema ≡ Some sequence)
      → (is_quiet : (db : Trees) (e : Edit) → e.table.tree < many → works schema Enforced 0 e.table.tree (taken_by db e) e.news ≡ [])
      → (are_trees : AreTrees many schema.tables) → tree < many → 2 < many → slice_get schema.tables tree ≡ Some table → tree ≢ 2
      → (old new : State) (text : List ℕ) (xs : List Queued) (n next count : ℕ)
      → command_of (understood schema text) ≡ Insert tree (Values terms_16 7) → IsPlain (understood schema text)
      → ((x : Queued) → Stays x) → length xs ≡ 16 → old.now.schema ≡ schema
      → IsCounted name (counts_of name (old.now.trees 2)) n → AllByRecursion (IsUnder n) (old.now.trees tree)
      → next_rowid (old.now.trees tree) ≡ pos next → next ≤ n + 1 → Executes text (params_of xs) old new (Ok count)
      → (new.now.schema ≡ schema) × PutsAllIn many name tree old.now.trees (rests_of xs) n new.now.trees
  inserts_16_in many is_listed is_quiet are_trees own counts there apart old new text xs n next count is plain stays long has counted under next_is low h =
      inserting.inserts_all_in many name tree columns checks schema is_listed is_quiet are_trees own counts there apart old new text (params_of xs) (rests_of xs)
      (Values terms_16 7) n next count is plain
      (λ rows sourced. ap (map (λ s. cast_row table (drop 0 s))) (given_16 old.step_limit old.now.trees xs long rows sourced) ∙ cast_all stays xs)
      (omega (arith, long_rests xs)) has counted under next_is low h

-- into the rows of a store that has one such table
pub inserts_16 : (kind : StoreKind) (f r : List Term) (m : More kind) → AreBehind (names_of kind) (more_with kind m)
    → (old new : State) (text : List ℕ) (xs : List Queued) (n next count : ℕ)
    → command_of (understood (schema_for kind f r m) text) ≡ Insert 1 (Values terms_16 7) → IsPlain (understood (schema_for kind f r m) text)
    → ((x : Queued) → cast_row (rows_with kind r) (Null ∷ whole_cells x) ≡ Null ∷ whole_cells x) → length xs ≡ 16 → old.now.schema ≡ schema_for kind f r m
    → IsCounted (name_of kind) (old.now.trees 2) n → AllByRecursion (IsUnder n) (old.now.trees 1)
    → next_rowid (old.now.trees 1) ≡ pos next → next ≤ n + 1 → Executes text (params_of xs) old new (Ok count)
    → (new.now.schema ≡ schema_for kind f r m) × PutsAll 3 (name_of kind) old.now.trees (rests_of xs) n new.now.trees
inserts_16 kind f r m behind old new text xs n next count is plain stays long has counted under next_is low h =
    let name = name_of kind in
    let did = inserts_16_in name 1 (columns_of kind) r (schema_for kind f r m) 3 (inserting.listed kind f r m) (inserting.quiet kind f r m behind)
    (inserting.trees kind f r m) (omega arith) (omega arith) refl
    (λ e. absurd (omega arith)) old new text xs n next count is plain stays long has (named_alone name (old.now.trees 2) n counted) under next_is low h in
    (did.0, puts_all_at 3 name old.now.trees (rests_of xs) n new.now.trees counted did.1)

-- ---- as if one by one

module _ (name : List ℕ) (db : Trees) (rest : Row) (n : ℕ) where
  -- the trees after the first row
  abbrev pub mid_of : Trees
  mid_of = λ t. cond (t == 1) (put_row (Int (pos (n + 1)) ∷ rest) (db 1)) (cond (t == 2) (count_row name (pos 1) (n + 1) ∷ []) (db t))

  mid_other : (t : ℕ) → t ≢ 1 → t ≢ 2 → mid_of t ≡ db t
  mid_other t not_1 not_2 = rw (is_other t 1 not_1, is_other t 2 not_2) refl

  pub puts_one : (many : ℕ) → PutsAt many name db rest n mid_of
  puts_one many = record { table = refl; count = inr (pos 1, refl); others = λ t low. mid_other t }

  -- and what the others make of them
  pub puts_more : (many : ℕ) (rests : List Row) (now : Trees) → PutsAll many name db (rest ∷ rests) n now → PutsAll many name mid_of rests (n + 1) now
  puts_more many rests now puts = record {
    table = puts.table;
    count = subst (λ (k : ℕ). IsCounted name (now 2) k) (let e : n + suc (length rests) ≡ n + 1 + length rests = omega arith in e) puts.count;
    others = λ t low not_1 not_2. puts.others t low not_1 not_2 ∙ sym (mid_other t not_1 not_2);
  }
