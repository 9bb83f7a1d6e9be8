-- What the number of the form makes of the tables that every store begins with.
use Rattle.std.proofs.Common.{◌≡◌, ◌≢◌, ℕ, pos, List, [], ◌∷◌, codes, inl, Option, None, Ok, refl, sym, ap, ap₂, subst, ◌∙◌, arith}
use Rattle.sqlite_tied.specs.Compute.{everything}
use Rattle.sqlite_schema.specs.declared.schema.Keys.TheVariants.{Enforced}
use Rattle.sqlite.specs.declared.types.Value.TheVariants.{Null, Int}
use Rattle.sqlite.specs.Command.TheVariants.{Insert}
use Rattle.sqlite.specs.Source.TheVariants.{Values}
use Rattle.sqlite.specs.Schema.{Schema}
use Rattle.sqlite.specs.Term.{Term, lit}
use Rattle.sqlite.specs.Order.{Row}
use Rattle.sqlite.specs.Tree.{Trees, put_row}
use Rattle.sqlite.specs.Edit.{Edit, edit_of, put_all, taken_by}
use Rattle.sqlite.specs.Rowids.TheVariants.{Chosen}
use Rattle.sqlite.specs.Effect.{Database}
use Rattle.sqlite.specs.Does.{Does}
use Rattle.sqlite.specs.Rows.{Task, Written, Inserts}
use Rattle.sqlite_rules.specs.Action.{works}
use Rattle.sqlite.specs.Listing.{understood}
use Rattle.sqlite.specs.Given.{IsPlain}
use Rattle.sqlite.specs.State.{State, Executes, mode_of}
use Rattle.sqlite_trees.specs.declared.store.Store.{Ghosts}
use Rattle.sqlite.specs.Held.{Held, state}
use Rattle.sqlite.proofs.Callers.{command_of, statement_of, runs_as, one_step}
use Rattle.sqlite_trees.proofs.ListLemmas.{IsPermutation-same}
use Rattle.dnp_controls.specs.Book.{empty_ledger}
use Rattle.dnp_store.specs.Texts.{form_insert}
use Rattle.dnp_store.specs.Tables.{form_with, no_schema, schema_of}
use Rattle.dnp_store.specs.JournalTables.{HoldsArchive, IsJournal, empty_archive}
use Rattle.dnp_store.specs.BookTables.{HoldsBook, IsBook}
use Rattle.dnp_store.specs.declared.store_kind.StoreKind.{StoreKind}
use Rattle.dnp_store.specs.declared.store_kind.StoreKind.TheVariants.{Journal, Book}
use Rattle.dnp_store.specs.Schemas.{checks_of_form, checks_of_rows, form_text, rows_text}
use Rattle.dnp_store.specs.steps.Making.{ExecuteAll}
use Rattle.dnp_store.specs.steps.Stores.{rows_with, number_row, HasTables, IsFresh, HasNumber}
use Rattle.dnp_store.proofs.Statements.{IsRead, command_read, plain_read, went, written, same_value}
use Rattle.dnp_store.proofs.Counting.{cast_int, cast_null}
use Rattle.dnp_store.proofs.Creating.{created_form, created_rows}

abbrev pub number_text : List ℕ
number_text = form_insert

abbrev number_terms : List Term
number_terms = lit Null ∷ lit (Int (pos 1)) ∷ []

abbrev schema : StoreKind → List Term → List Term → Schema
schema kind f r = schema_of f (rows_with kind r) no_schema

number_read : (kind : StoreKind) (f r : List Term) → IsRead (Insert 0 (Values number_terms 2)) (understood (schema kind f r) number_text)
unfolding understood everything
number_read kind f r = (refl, refl, refl)

number_is : (kind : StoreKind) (f r : List Term) → command_of (understood (schema kind f r) number_text) ≡ Insert 0 (Values number_terms 2)
number_is kind f r = command_read _ (understood (schema kind f r) number_text) (number_read kind f r)

number_plain : (kind : StoreKind) (f r : List Term) → IsPlain (understood (schema kind f r) number_text)
number_plain kind f r = plain_read _ (understood (schema kind f r) number_text) (number_read kind f r)

-- no table refers to another
quiet : (kind : StoreKind) (f r : List Term) (db : Trees) (e : Edit) → works (schema kind f r) Enforced 0 e.table.tree (taken_by db e) e.news ≡ []
unfolding everything
quiet kind f r db e = refl

-- one table has one row more, and no other changes
pub record PutsIn (tree : ℕ) (row : Row) (db now : Trees) : Type 0 where
  pub table : now tree ≡ put_row row (db tree)
  pub others : (t : ℕ) → t ≢ tree → now t ≡ db t

abbrev number_task : StoreKind → List Term → List Term → Option ℕ → Task
number_task kind f r limit = record { limit = limit; keys = Enforced; schema = schema kind f r; table = form_with f; params = [] }

number_put : (kind : StoreKind) (f r : List Term) (limit : Option ℕ) (db : Trees) (a : Written) → db 0 ≡ []
    → Inserts (number_task kind f r limit) (Values number_terms 2) db (Ok a) → PutsIn 0 number_row db a.trees
unfolding everything
number_put kind f r limit db a empty h =
    let sourced = went h in
    let counter = went sourced.2 in
    let edited_to = went counter.2 in
    let next = went edited_to.2 in
    let out = same_value next.2 in
    let source : sourced.0 ≡ (Null ∷ Int (pos 1) ∷ []) ∷ [] = sourced.1.1 in
    let edit = λ (rows : List Row). edit_of db (form_with f) [] Chosen 0 rows in
    let news : (edit sourced.0).news ≡ number_row ∷ [] =
    ap (λ rows. (edit rows).news) source ∙ rw (cast_null, cast_int (pos 1), empty) refl in
    let step = one_step (schema kind f r) Enforced db edited_to.0 (edit sourced.0) (quiet kind f r db (edit sourced.0)) edited_to.1 in
    let last : next.0 ≡ edited_to.0 = same_value next.1 in
    record {
      table = ap (λ (w : Written). w.trees 0) out ∙ ap (λ (t : Trees). t 0) last ∙ step.rows ∙ ap (put_all (db 0)) news;
      others = λ t not_0. ap (λ (w : Written). w.trees t) out ∙ ap (λ (d : Trees). d t) last ∙ step.others t not_0 tt;
    }

pub numbers : (kind : StoreKind) (old new : State) (count : ℕ) → HasTables kind old.now → Executes number_text [] old new (Ok count) → HasNumber kind new.now
numbers kind old new count has h =
    let f = has.form in
    let r = has.rows in
    let command = Insert 0 (Values number_terms 2) in
    let w = runs_as number_text [] old new (schema kind f r) has.schema command (number_is kind f r) (number_plain kind f r) count h in
    let does = subst (λ s. Does old.step_limit (mode_of old) [] (record old.now { schema = s })
    (statement_of number_text (understood (schema kind f r) number_text)) None command (Ok (w.tally, new.now))) has.schema w.changed in
    let done = written (number_task kind f r old.step_limit) (mode_of old) command old.now.trees w.tally new.now does in
    let put = number_put kind f r old.step_limit old.now.trees done.0 has.empty.0 done.1 in
    let is = done.2 in
    record {
      form = f;
      rows = r;
      form_by = has.form_by;
      rows_by = has.rows_by;
      schema = ap (λ (d : Database). d.schema) is;
      holds = record {
        number = ap (λ (d : Database). d.trees 0) is ∙ put.table ∙ ap (put_row number_row) has.empty.0;
        empty = (
          ap (λ (d : Database). d.trees 1) is ∙ put.others 1 (λ e. absurd (omega arith)) ∙ has.empty.1,
          ap (λ (d : Database). d.trees 2) is ∙ put.others 2 (λ e. absurd (omega arith)) ∙ has.empty.2,
        );
      };
    }

-- the schema is that of the statements that made it
pub made_of : (kind : StoreKind) (db : Database) → HasNumber kind db → db.schema ≡ schema kind checks_of_form (checks_of_rows kind)
made_of kind db has = has.schema ∙ ap₂ (schema kind) has.form_by has.rows_by

-- ---- a store that was just made has no rows

pub fresh_journal : (db : Trees) → IsFresh db → HoldsArchive db empty_archive
fresh_journal db h = record {
  form = (pos 1, h.number);
  logged = [];
  logged_is = IsPermutation-same [] (db 1) (sym h.empty.0);
  counted = inl (h.empty.1, refl);
  rise = tt;
  in_range = tt;
  rows = refl;
}

pub fresh_book : (db : Trees) → IsFresh db → HoldsBook db empty_ledger
fresh_book db h = record { form = (pos 1, h.number); entries = IsPermutation-same [] (db 1) (sym h.empty.0); counted = inl (h.empty.1, refl) }

pub no_events : (db : Database) → HasNumber Journal db → IsJournal db empty_archive
no_events db has = record {
  form_checks = has.form;
  journal_checks = has.rows;
  more = no_schema;
  schema = has.schema;
  behind = refl;
  holds = fresh_journal db.trees has.holds;
}

pub no_entries : (db : Database) → HasNumber Book db → IsBook db empty_ledger
no_entries db has = record {
  form_checks = has.form;
  control_checks = has.rows;
  more = no_schema;
  schema = has.schema;
  behind = refl;
  holds = fresh_book db.trees has.holds;
}

-- the tables that a store begins with are made
pub began : {S : Type 0} (g : Ghosts S) (kind : StoreKind) (old new : Held S) → (state g old).now.schema ≡ no_schema
    → ExecuteAll g (form_text ∷ rows_text kind ∷ number_text ∷ []) old new → HasNumber kind (state g new).now
began g kind old new none ran =
    let rows = ran.3 in
    let number = rows.3 in
    let one = created_form (state g old) (state g ran.0) ran.1 none ran.2 in
    let two = created_rows kind (state g ran.0) (state g rows.0) rows.1 one rows.2 in
    subst (λ (x : Held _). HasNumber kind (state g x).now) number.3 (numbers kind (state g rows.0) (state g number.0) number.1 two number.2)
