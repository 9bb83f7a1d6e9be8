-- What CREATE TABLE makes of a database: the tables that every store begins with, and the lanes of a queue.
use Rattle.std.proofs.Common.{◌≡◌, ℕ, List, [], ◌∷◌, true, false, None, Ok, Err, Result, refl, sym, ap, subst, subst₂, ◌∙◌}
use Rattle.sqlite_tied.specs.Compute.{everything}
use Rattle.sqlite_resolve.specs.Compile.{table_defined_by}
use Rattle.sqlite_resolve.specs.declared.compiled.Compiled.{Compiled}
use Rattle.sqlite_resolve.specs.declared.error.CompileError.{CompileError}
use Rattle.sqlite.specs.Command.TheVariants.{CreateTable}
use Rattle.sqlite.specs.Schema.{Schema}
use Rattle.sqlite.specs.Table.{Table}
use Rattle.sqlite.specs.Term.{Term}
use Rattle.sqlite.specs.Effect.{Database}
use Rattle.sqlite.specs.Does.{Tally, Does, MakesTable, MakesSequence, lacks_sequence, sequence_text}
use Rattle.sqlite_catalog.specs.Change.{created, KeepsRows, next_tree}
use Rattle.sqlite.specs.State.{State, Executes, mode_of, text_of}
use Rattle.sqlite.specs.Listing.{understood}
use Rattle.sqlite.specs.Given.{IsPlain}
use Rattle.sqlite.proofs.Callers.{command_of, statement_of, runs_as}
use Rattle.dnp_store.specs.Tables.{form_with, schema_of, no_schema}
use Rattle.dnp_store.specs.QueueTables.{lanes_with, queue_with, queue_schema}
use Rattle.dnp_store.specs.declared.store_kind.StoreKind.{StoreKind}
use Rattle.dnp_store.specs.declared.store_kind.StoreKind.TheVariants.{Queue, Journal, Book}
use Rattle.dnp_store.specs.Schemas.{form_text, lanes_text, rows_text, table_of_text, checks_of_form, checks_of_rows, checks_of_lanes}
use Rattle.dnp_store.specs.steps.Stores.{form_schema, rows_with, HasForm, HasTables, HasNumber}
use Rattle.dnp_store.specs.steps.Making.{HasLanes}
use Rattle.dnp_store.proofs.Statements.{went, same_value, picked, otherwise}

-- ---- what the texts define

abbrev pub treeless : Table → Table
treeless t = record t { tree = 0 }

-- it defines this table, with the CHECKs that it has, before it has a tree (read off one reading of the text)
abbrev pub IsMade : (List Term → Table) → Result Table CompileError → Type 0
IsMade like (Ok t) = t ≡ treeless (like t.checks)
IsMade like (Err e) = ⊥

pub made_of : (like : List Term → Table) (r : Result Table CompileError) → IsMade like r → table_of_text r ≡ treeless (like (table_of_text r).checks)
made_of like (Ok t) h = h
made_of like (Err e) h = absurd h

form_made : IsMade form_with (table_defined_by form_text)
unfolding everything
form_made = refl

rows_made : (kind : StoreKind) → IsMade (rows_with kind) (table_defined_by (rows_text kind))
unfolding everything
rows_made Queue = refl
rows_made Journal = refl
rows_made Book = refl

lanes_made : IsMade lanes_with (table_defined_by lanes_text)
unfolding everything
lanes_made = refl

-- ---- what the texts are

-- it makes a table and does no more (each part is read off one reading of the text)
abbrev pub IsTable : List ℕ → Result Compiled CompileError → Type 0
IsTable sql (Ok c) = (c.command ≡ CreateTable) × (text_of sql c ≡ sql) × (c.returning ≡ None) × (c.formats ≡ [])
IsTable sql (Err e) = ⊥

pub is_of : (sql : List ℕ) (u : Result Compiled CompileError) → IsTable sql u → (command_of u ≡ CreateTable) × (statement_of sql u ≡ sql)
is_of sql (Ok c) h = (h.0, h.1)
is_of sql (Err e) h = absurd h

pub plain_of : (sql : List ℕ) (u : Result Compiled CompileError) → IsTable sql u → IsPlain u
plain_of sql (Ok c) h = (h.2, h.3)
plain_of sql (Err e) h = absurd h

form_is : IsTable form_text (understood no_schema form_text)
unfolding understood everything
form_is = (refl, refl, refl, refl)

rows_is : (kind : StoreKind) (f : List Term) → IsTable (rows_text kind) (understood (form_schema f) (rows_text kind))
unfolding understood everything
rows_is Queue f = (refl, refl, refl, refl)
rows_is Journal f = (refl, refl, refl, refl)
rows_is Book f = (refl, refl, refl, refl)

lanes_is : (f q : List Term) → IsTable lanes_text (understood (schema_of f (queue_with q) no_schema) lanes_text)
unfolding understood everything
lanes_is f q = (refl, refl, refl, refl)

-- ---- the statements

-- the table is made, and then that of the counts, if it is wanted and not there
pub makes : (old new : State) (sql : List ℕ) (schema : Schema) (count : ℕ) → old.now.schema ≡ schema → (command_of (understood schema sql) ≡ CreateTable)
    × (statement_of sql (understood schema sql) ≡ sql)
    → IsPlain (understood schema sql) → Executes sql [] old new (Ok count)
    → (mid : Database) × MakesTable sql (record { schema = schema; trees = old.now.trees }) (Ok mid) × MakesSequence mid (Ok new.now)
makes old new sql schema count has is plain h =
    let w = runs_as sql [] old new schema has CreateTable is.0 plain count h in
    let does : Does old.step_limit (mode_of old) [] (record { schema = schema; trees = old.now.trees }) sql None CreateTable (Ok (w.tally, new.now)) =
    subst₂ (λ s t. Does old.step_limit (mode_of old) [] (record { schema = s; trees = old.now.trees }) t None CreateTable (Ok (w.tally, new.now))) has is.1
    w.changed in
    let outer = went does in
    let inner = went outer.1 in
    let end : new.now ≡ outer.0 = ap (λ (p : Tally × Database). p.1) (same_value outer.2) in
    (inner.0, inner.1, subst (λ d. MakesSequence inner.0 (Ok d)) (sym end) inner.2)

pub created_form : (old new : State) (count : ℕ) → old.now.schema ≡ no_schema → Executes form_text [] old new (Ok count) → HasForm new.now
unfolding checks_of_form
created_form old new count has h =
    let run = makes old new form_text no_schema count has
    (is_of form_text (understood no_schema form_text) form_is)
    (plain_of form_text (understood no_schema form_text) form_is) h in
    let made = run.1 in
    let f = (table_of_text (table_defined_by form_text)).checks in
    let table : made.table ≡ form_with f = sym (ap table_of_text made.defined) ∙ made_of form_with (table_defined_by form_text) form_made in
    let mid : run.0.schema ≡ form_schema f = made.is ∙ ap (created no_schema) table in
    let same : new.now ≡ run.0 = same_value (otherwise _ (lacks_sequence run.0.schema) (ap lacks_sequence mid) run.2) in
    record { form = f; form_by = refl; schema = ap (λ (d : Database). d.schema) same ∙ mid; empty = ap (λ (d : Database). d.trees 0) same ∙ made.empty }

-- the rows' table comes first, then that of the counts
abbrev two_schema : StoreKind → List Term → List Term → Schema
two_schema kind f r = record { tables = form_with f ∷ rows_with kind r ∷ []; indexes = []; views = [] }

abbrev checks_of : StoreKind → List Term
checks_of kind = (table_of_text (table_defined_by (rows_text kind))).checks

rows_put : (kind : StoreKind) (f r : List Term) → created (form_schema f) (treeless (rows_with kind r)) ≡ two_schema kind f r
unfolding everything
rows_put Queue f r = refl
rows_put Journal f r = refl
rows_put Book f r = refl

rows_joined : (kind : StoreKind) (f : List Term) → created (form_schema f) (table_of_text (table_defined_by (rows_text kind)))
    ≡ two_schema kind f (checks_of kind)
rows_joined kind f =
    ap (created (form_schema f)) (made_of (rows_with kind) (table_defined_by (rows_text kind)) (rows_made kind)) ∙ rows_put kind f (checks_of kind)

sequence_joined : (kind : StoreKind) (f r : List Term) → created (two_schema kind f r) (table_of_text (table_defined_by sequence_text))
    ≡ schema_of f (rows_with kind r) no_schema
unfolding everything
sequence_joined kind f r = refl

lacks : (kind : StoreKind) (f r : List Term) → lacks_sequence (two_schema kind f r) ≡ true
unfolding everything
lacks Queue f r = refl
lacks Journal f r = refl
lacks Book f r = refl

pub created_rows : (kind : StoreKind) (old new : State) (count : ℕ) → HasForm old.now → Executes (rows_text kind) [] old new (Ok count) → HasTables kind new.now
unfolding checks_of_rows
created_rows kind old new count has h =
    let f = has.form in
    let r = checks_of kind in
    let run = makes old new (rows_text kind) (form_schema f) count has.schema
    (is_of (rows_text kind) (understood (form_schema f) (rows_text kind)) (rows_is kind f))
    (plain_of (rows_text kind) (understood (form_schema f) (rows_text kind)) (rows_is kind f)) h in
    let made = run.1 in
    let mid : run.0.schema ≡ two_schema kind f r = made.is ∙ ap (created (form_schema f)) (sym (ap table_of_text made.defined)) ∙ rows_joined kind f in
    let seq : MakesTable sequence_text run.0 (Ok new.now) = picked _ (lacks_sequence run.0.schema) (ap lacks_sequence mid ∙ lacks kind f r) run.2 in
    let end : new.now.schema ≡ schema_of f (rows_with kind r) no_schema = seq.is ∙ ap (λ s. created s seq.table) mid
    ∙ ap (created (two_schema kind f r)) (sym (ap table_of_text seq.defined)) ∙ sequence_joined kind f r in
    let kept = subst (λ (s : Schema). KeepsRows s.tables run.0.trees new.now.trees) mid seq.others in
    let third : new.now.trees 2 ≡ [] = subst (λ (s : Schema). new.now.trees (next_tree s) ≡ []) mid seq.empty in
    record { form = f; rows = r; form_by = has.form_by; rows_by = refl; schema = end; empty = (kept.0 ∙ made.others.0 ∙ has.empty, kept.1.0 ∙ made.empty, third) }

-- ---- the lanes

abbrev l_checks : List Term
l_checks = (table_of_text (table_defined_by lanes_text)).checks

lanes_put : (f q l : List Term) → created (schema_of f (queue_with q) no_schema) (treeless (lanes_with l)) ≡ queue_schema f q l
unfolding everything
lanes_put f q l = refl

lanes_joined : (f q : List Term) → created (schema_of f (queue_with q) no_schema) (table_of_text (table_defined_by lanes_text)) ≡ queue_schema f q l_checks
lanes_joined f q =
    ap (created (schema_of f (queue_with q) no_schema)) (made_of lanes_with (table_defined_by lanes_text) lanes_made) ∙ lanes_put f q l_checks

lacks_no_more : (f q l : List Term) → lacks_sequence (queue_schema f q l) ≡ false
unfolding everything
lacks_no_more f q l = refl

pub created_lanes : (old new : State) (count : ℕ) → HasNumber Queue old.now → Executes lanes_text [] old new (Ok count) → HasLanes new.now []
unfolding checks_of_lanes
created_lanes old new count has h =
    let f = has.form in
    let q = has.rows in
    let run = makes old new lanes_text (schema_of f (queue_with q) no_schema) count has.schema
    (is_of lanes_text (understood (schema_of f (queue_with q) no_schema) lanes_text) (lanes_is f q))
    (plain_of lanes_text (understood (schema_of f (queue_with q) no_schema) lanes_text) (lanes_is f q)) h in
    let made = run.1 in
    let mid : run.0.schema ≡ queue_schema f q l_checks = made.is ∙ ap (created (schema_of f (queue_with q) no_schema)) (sym (ap table_of_text made.defined))
    ∙ lanes_joined f q in
    let same : new.now ≡ run.0 = same_value (otherwise _ (lacks_sequence run.0.schema) (ap lacks_sequence mid ∙ lacks_no_more f q l_checks) run.2) in
    let kept = made.others in
    record {
      form = f;
      queue = q;
      lanes = l_checks;
      form_by = has.form_by;
      queue_by = has.rows_by;
      lanes_by = refl;
      schema = ap (λ (d : Database). d.schema) same ∙ mid;
      holds = record {
        number = ap (λ (d : Database). d.trees 0) same ∙ kept.0 ∙ has.holds.number;
        empty = (
          ap (λ (d : Database). d.trees 1) same ∙ kept.1.0 ∙ has.holds.empty.0,
          ap (λ (d : Database). d.trees 2) same ∙ kept.1.1.0 ∙ has.holds.empty.1,
        );
      };
      filled = ap (λ (d : Database). d.trees 3) same ∙ made.empty;
    }
