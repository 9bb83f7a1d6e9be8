-- What an INSERT of a row under the next id makes of a store's tables.
use Rattle.std.proofs.Common.{◌≡◌, ◌≢◌, inl, inr, ℕ, zero, suc, ◌+◌, ◌<◌, ◌≤◌, pos, List, [], ◌∷◌, length, map, drop, true, Some, None, Ok, refl, sym, ap, subst, arith}
use Rattle.std.specs.Prelude.{slice_get}
use Rattle.std.specs.List.{AllByRecursion}
use Rattle.sqlite_tied.specs.Compute.{everything}
use Rattle.sqlite_schema.specs.declared.schema.Keys.TheVariants.{Enforced}
use Rattle.sqlite.specs.declared.types.Value.TheVariants.{Null}
use Rattle.sqlite.specs.Command.TheVariants.{Insert}
use Rattle.sqlite.specs.Source.{Source}
use Rattle.sqlite.specs.Term.{Term}
use Rattle.sqlite.specs.Order.{Row}
use Rattle.sqlite.specs.Tree.{Trees}
use Rattle.sqlite.specs.Edit.{Edit, next_rowid, taken_by}
use Rattle.sqlite.specs.Effect.{Database}
use Rattle.sqlite.specs.Does.{Does, OnRows}
use Rattle.sqlite.specs.Rows.{Sourced, stamped, sequence as counters_of}
use Rattle.sqlite.specs.Cast.{cast_row}
use Rattle.sqlite_rules.specs.Action.{works}
use Rattle.sqlite.specs.Listing.{understood}
use Rattle.sqlite.specs.Given.{IsPlain}
use Rattle.sqlite.specs.State.{State, Executes, mode_of}
use Rattle.sqlite.proofs.Callers.{command_of, statement_of, runs_as}
use Rattle.sqlite_schema.specs.declared.schema.Column.{Column}
use Rattle.sqlite.specs.Schema.{Schema}
use Rattle.sqlite.specs.Table.{Table}
use Rattle.dnp_store.specs.Tables.{AreBehind, IsCounted, counts_of, form_with, sequence, table_of}
use Rattle.dnp_store.specs.declared.store_kind.StoreKind.{StoreKind}
use Rattle.dnp_store.specs.declared.store_kind.StoreKind.TheVariants.{Queue, Journal, Book}
use Rattle.dnp_store.specs.steps.Stores.{More, columns_of, more_with, name_of, names_of, rows_with, schema_for}
use Rattle.dnp_store.proofs.Apart.{AreTrees, quiet_behind}
use Rattle.dnp_store.proofs.Statements.{at_table, written}
use Rattle.dnp_store.proofs.Counting as counting
use Rattle.dnp_store.proofs.Counting.{PutsAt, PutsIn, PutsAllIn, puts_at, next_id}
use Rattle.dnp_store.proofs.Recounting.{named_alone}
use Rattle.dnp_store.proofs.IdRows.{IsUnder}

-- no table refers to a store's own
pub quiet : (kind : StoreKind) (f r : List Term) (m : More kind) → AreBehind (names_of kind) (more_with kind m) → (db : Trees) (e : Edit) → e.table.tree < 3
    → works (schema_for kind f r m) Enforced 0 e.table.tree (taken_by db e) e.news ≡ []
quiet Queue f r m behind db e low = absurd cc
quiet Journal f r m behind db e low =
    quiet_behind (schema_for Journal f r m) (form_with f ∷ rows_with Journal r ∷ sequence ∷ []) m.tables e.table.tree (taken_by db e) e.news refl
    (refl, (refl, (refl, tt))) behind low
quiet Book f r m behind db e low =
    quiet_behind (schema_for Book f r m) (form_with f ∷ rows_with Book r ∷ sequence ∷ []) m.tables e.table.tree (taken_by db e) e.news refl
    (refl, (refl, (refl, tt))) behind low

pub trees : (kind : StoreKind) (f r : List Term) (m : More kind) → AreTrees 3 (schema_for kind f r m).tables
trees kind f r m zero low = (form_with f, inl refl, refl)
trees kind f r m (suc zero) low = (rows_with kind r, inr (inl refl), refl)
trees kind f r m (suc (suc zero)) low = (sequence, inr (inr (inl refl)), refl)
trees kind f r m (suc (suc (suc t))) low = absurd (omega (arith, low))

pub listed : (kind : StoreKind) (f r : List Term) (m : More kind) → counters_of (schema_for kind f r m) ≡ Some sequence
unfolding everything
listed Queue f r m = refl
listed Journal f r m = refl
listed Book f r m = refl

-- ---- into any table that is counted

module _ (many : ℕ) (name : List ℕ) (tree : ℕ) (columns : List Column) (checks : List Term) (schema : Schema) (is_listed : counters_of schema ≡ Some sequence)
    (is_quiet : (db : Trees) (e : Edit) → e.table.tree < many → works schema Enforced 0 e.table.tree (taken_by db e) e.news ≡ [])
    (are_trees : AreTrees many schema.tables) (own : tree < many) (counts : 2 < many)
    (there : slice_get schema.tables tree ≡ Some (table_of name tree columns true true checks)) (apart : tree ≢ 2) where
  abbrev table : Table
  table = table_of name tree columns true true checks

  -- one row
  pub inserts_in : (old new : State) (text : List ℕ) (params source rest : Row) (from : Source) (n next count : ℕ)
      → command_of (understood schema text) ≡ Insert tree from → IsPlain (understood schema text)
      → ((rows : List Row) → Sourced old.step_limit (record { schema = schema; trees = old.now.trees }) (stamped table params) from (Ok rows)
      → rows ≡ source ∷ [])
      → cast_row table source ≡ Null ∷ rest → old.now.schema ≡ schema → IsCounted name (counts_of name (old.now.trees 2)) n
      → next_rowid (old.now.trees tree) ≡ pos next → next ≤ n + 1 → Executes text params old new (Ok count)
      → (new.now.schema ≡ schema) × PutsIn many name tree old.now.trees rest n new.now.trees
  inserts_in old new text params source rest from n next count is plain sources casts has counted next_is low h =
      let w = runs_as text params old new schema has (Insert tree from) is plain count h in
      let task = counting.task name tree columns checks schema old.step_limit params in
      let does = subst (λ s. Does old.step_limit (mode_of old) params (record old.now { schema = s }) (statement_of text (understood schema text)) None
      (Insert tree from) (Ok (w.tally, new.now))) has w.changed in
      let on = at_table (λ t. OnRows (record task { table = t }) (mode_of old) None (Insert tree from) old.now.trees) schema.tables tree table
      (Ok (w.tally, new.now)) there does in
      let done = written task (mode_of old) (Insert tree from) old.now.trees w.tally new.now on in
      let put = counting.inserted name tree columns checks schema many is_listed is_quiet are_trees own counts apart old.step_limit params old.now.trees done.0 source rest from n next
      counted next_is low sources casts done.1 in
      (ap (λ (d : Database). d.schema) done.2, subst (λ (d : Database). PutsIn many name tree old.now.trees rest n d.trees) (sym done.2) put)

  -- several rows
  pub inserts_all_in : (old new : State) (text : List ℕ) (params : Row) (rests : List Row) (from : Source) (n next count : ℕ)
      → command_of (understood schema text) ≡ Insert tree from → IsPlain (understood schema text)
      → ((rows : List Row) → Sourced old.step_limit (record { schema = schema; trees = old.now.trees }) (stamped table params) from (Ok rows)
      → map (λ s. cast_row table (drop 0 s)) rows ≡ map (λ r. Null ∷ r) rests)
      → 0 < length rests → old.now.schema ≡ schema → IsCounted name (counts_of name (old.now.trees 2)) n
      → AllByRecursion (IsUnder n) (old.now.trees tree) → next_rowid (old.now.trees tree) ≡ pos next → next ≤ n + 1 → Executes text params old new (Ok count)
      → (new.now.schema ≡ schema) × PutsAllIn many name tree old.now.trees rests n new.now.trees
  inserts_all_in old new text params rests from n next count is plain sources some has counted under next_is low h =
      let w = runs_as text params old new schema has (Insert tree from) is plain count h in
      let task = counting.task name tree columns checks schema old.step_limit params in
      let does = subst (λ s. Does old.step_limit (mode_of old) params (record old.now { schema = s }) (statement_of text (understood schema text)) None
      (Insert tree from) (Ok (w.tally, new.now))) has w.changed in
      let on = at_table (λ t. OnRows (record task { table = t }) (mode_of old) None (Insert tree from) old.now.trees) schema.tables tree table
      (Ok (w.tally, new.now)) there does in
      let done = written task (mode_of old) (Insert tree from) old.now.trees w.tally new.now on in
      let put = counting.inserted_all name tree columns checks schema many is_listed is_quiet are_trees own counts apart old.step_limit params old.now.trees done.0 rests from n counted
      under (next_id (old.now.trees tree) n next next_is low) some sources done.1 in
      (ap (λ (d : Database). d.schema) done.2, subst (λ (d : Database). PutsAllIn many name tree old.now.trees rests n d.trees) (sym done.2) put)

-- ---- into the rows of a store that has one such table

pub inserts : (kind : StoreKind) (f r : List Term) (m : More kind) → AreBehind (names_of kind) (more_with kind m)
    → (old new : State) (text : List ℕ) (params source rest : Row) (from : Source) (n next count : ℕ)
    → command_of (understood (schema_for kind f r m) text) ≡ Insert 1 from → IsPlain (understood (schema_for kind f r m) text)
    → ((rows : List Row) → Sourced old.step_limit (record { schema = schema_for kind f r m; trees = old.now.trees })
    (stamped (rows_with kind r) params) from (Ok rows)
    → rows ≡ source ∷ [])
    → cast_row (rows_with kind r) source ≡ Null ∷ rest → old.now.schema ≡ schema_for kind f r m → IsCounted (name_of kind) (old.now.trees 2) n
    → next_rowid (old.now.trees 1) ≡ pos next → next ≤ n + 1 → Executes text params old new (Ok count)
    → (new.now.schema ≡ schema_for kind f r m) × PutsAt 3 (name_of kind) old.now.trees rest n new.now.trees
inserts kind f r m behind old new text params source rest from n next count is plain sources casts has counted next_is low h =
    let name = name_of kind in
    let did = inserts_in 3 name 1 (columns_of kind) r (schema_for kind f r m) (listed kind f r m) (quiet kind f r m behind) (trees kind f r m) (omega arith) (omega arith) refl
    (λ e. absurd (omega arith)) old new text params source rest from n next count is plain sources casts has (named_alone name (old.now.trees 2) n counted) next_is low h in
    (did.0, puts_at 3 name old.now.trees rest n new.now.trees counted did.1)
