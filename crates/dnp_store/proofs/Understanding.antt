-- What the text of a statement is in a schema of which only the name that it looks up is known.
use Rattle.std.proofs.Common.{◌≡◌, ℕ, ◌+◌, List, [], ◌∷◌, length, Bool, true, false, Option, Some, None, Ok, Err, Result, refl, sym, ap, ◌∙◌}
use Rattle.std.specs.Prelude.{if◌then◌else◌, slice_range, is_some, not, ◌&&◌, ◌==◌}
use Rattle.sqlite_ast.specs.declared.Statement.{Statement}
use Rattle.sqlite_ast.specs.declared.Statement.TheVariants as text
use Rattle.sqlite_ast.specs.declared.Conflict.TheVariants as conflict
use Rattle.sqlite_syntax.specs.declared.statement.Parsed.{Parsed}
use Rattle.sqlite_schema.specs.declared.command.Returning.{Returning}
use Rattle.sqlite_schema.specs.declared.command.Source.{Source}
use Rattle.sqlite_schema.specs.declared.program.Program.{Program}
use Rattle.sqlite_schema.specs.Names.{index_named, table_named, view_named}
use Rattle.sqlite_resolve.specs.Lowering.{Checked, and_then, or_else}
use Rattle.sqlite_resolve.specs.Scope.{Name}
use Rattle.sqlite_resolve.specs.Compile.{command, compiled, create_table, creates, first, insert, insert_or_abort, is_attached, is_reserved, meaning, new_rows, planned, returning, shows, small, target, timed, update, with_command}
use Rattle.sqlite_resolve.specs.Body.{table_at}
use Rattle.sqlite_resolve.specs.Program.{program}
use Rattle.sqlite_resolve.specs.Write.{updated}
use Rattle.sqlite_resolve.specs.Define as define
use Rattle.sqlite_ast.specs.declared.Shown.{Shown}
use Rattle.std.specs.Option.{option_or}
use Rattle.sqlite_resolve.specs.declared.error.CompileError.TheVariants.{Exists, Misuse, NoSuchTable, Unsupported}
use Rattle.sqlite_resolve.specs.declared.compiled.Compiled.{Compiled}
use Rattle.sqlite_resolve.specs.declared.error.CompileError.{CompileError}
use Rattle.sqlite.specs.Command.{Command}
use Rattle.sqlite.specs.Command.TheVariants.{CreateTable, Insert, Update}
use Rattle.sqlite.specs.Schema.{Schema}
use Rattle.sqlite.specs.Listing.{if_select, is_select, listing_schema, reads_listing, understood}
use Rattle.sqlite.specs.State.{text_of}

-- ---- parts of a reading

got : {A B : Type 0} (r : Checked A) (f : A → Checked B) (b : B) → and_then r f ≡ Ok b → (a : A) × (r ≡ Ok a) × (f a ≡ Ok b)
got (Ok a) f b is = (a, refl, is)
got (Err e) f b is = absurd cc

there : {A : Type 0} (o : Option A) (e : CompileError) (a : A) → or_else o e ≡ Ok a → o ≡ Some a
there (Some x) e a is = cc
there None e a is = absurd cc

unless : {A : Type 0} (b : Bool) (e : CompileError) (r : Checked A) (a : A) → (if b then Err e else r) ≡ Ok a → r ≡ Ok a
unless true e r a is = absurd cc
unless false e r a is = is

-- ---- what a text says

abbrev pub IsCreate : Statement → Type 0
IsCreate (text.CreateTable def) = def.if_missing ≡ false
IsCreate _ = ⊥

-- into this table, with no clause beside
abbrev pub IsInsert : List ℕ → Statement → Type 0
IsInsert name (text.Insert conflict.Abort found columns rows clauses shown) = (found ≡ name) × (clauses ≡ []) × (shown ≡ [])
IsInsert name _ = ⊥

abbrev pub IsUpdate : List ℕ → Statement → Type 0
IsUpdate name (text.Update found sets test shown) = (found ≡ name) × (shown ≡ [])
IsUpdate name _ = ⊥

-- the text is such a statement, and no more (each part is read off one reading of the text)
abbrev pub Says : (Statement → Type 0) → List ℕ → Checked Parsed → Type 0
Says Is sql (Ok p) = Is p.statement × (slice_range sql p.start p.end ≡ sql)
Says Is sql (Err e) = ⊥

-- ---- what it is in a schema

pub record IsIn (schema : Schema) (sql : List ℕ) (c : Compiled) (Is : Statement → Type 0) : Type 0 where
  pub parsed : Parsed
  pub base : ℕ
  pub says : Is parsed.statement
  pub shown : returning schema base parsed.statement ≡ Ok c.returning
  pub command_is : command schema parsed.formats base parsed.statement ≡ Ok c.command
  pub text_is : text_of sql c ≡ sql

abbrev base_of : Schema → Parsed → ℕ
base_of schema p = small p.names + small (timed schema p.formats p.statement)

planned_in : (schema : Schema) (p : Parsed) (plan : List Name × (Command × Option Returning)) → planned schema p ≡ Ok plan
    → (returning schema (base_of schema p) p.statement ≡ Ok plan.1.1) × (command schema p.formats (base_of schema p) p.statement ≡ Ok plan.1.0)
unfolding planned meaning
planned_in schema p plan is =
    let mean = got (meaning schema p (base_of schema p)) (λ found. Ok (timed schema p.formats p.statement, found)) plan is in
    let read = got (returning schema (base_of schema p) p.statement) (λ s. and_then (command schema p.formats (base_of schema p) p.statement)
    (λ c. Ok (c, s))) mean.0 mean.1 in
    let made = got (command schema p.formats (base_of schema p) p.statement) (λ c. Ok (c, read.0)) mean.0 read.2 in
    let one : plan ≡ (timed schema p.formats p.statement, mean.0) = cc in
    let two : mean.0 ≡ (made.0, read.0) = cc in (
      read.1 ∙ ap (λ (it : Command × Option Returning). Ok it.1) (sym two) ∙ ap (λ (it : List Name × (Command × Option Returning)). Ok it.1.1) (sym one),
      made.1 ∙ ap (λ (it : Command × Option Returning). Ok it.0) (sym two) ∙ ap (λ (it : List Name × (Command × Option Returning)). Ok it.1.0) (sym one),
    )

compiled_in : (schema : Schema) (sql : List ℕ) (c : Compiled) (Is : Statement → Type 0) → Says Is sql (first sql) → compiled schema sql ≡ Ok c
    → IsIn schema sql c Is
unfolding compiled
compiled_in schema sql c Is says is = go (first sql) says is
  where
    go : (r : Checked Parsed) → Says Is sql r → and_then r (λ p. and_then (planned schema p) (λ plan. Ok (with_command p plan))) ≡ Ok c → IsIn schema sql c Is
    go (Err e) said h = absurd said
    go (Ok p) said h =
        let plan = got (planned schema p) (λ it. Ok (with_command p it)) c h in
        let parts = planned_in schema p plan.0 plan.1 in
        let same : with_command p plan.0 ≡ c = cc in
        record {
          parsed = p;
          base = base_of schema p;
          says = said.0;
          shown = parts.0 ∙ ap (λ (it : Compiled). Ok it.returning) same;
          command_is = parts.1 ∙ ap (λ (it : Compiled). Ok it.command) same;
          text_is = ap (text_of sql) (sym same) ∙ said.1;
        }

-- no query
pub understood_in : (schema : Schema) (sql : List ℕ) (c : Compiled) (Is : Statement → Type 0) → Says Is sql (first sql)
    → ((s : Schema) (it : Compiled) → IsIn s sql it Is → is_select it.command ≡ false) → understood schema sql ≡ Ok c → IsIn schema sql c Is
unfolding understood
understood_in schema sql c Is says never is = go (reads_listing schema sql) is
  where
    listed : (r : Result Compiled CompileError) → compiled listing_schema sql ≡ r → if_select r ≡ Ok c → IsIn schema sql c Is
    listed (Err e) h k = absurd cc
    listed (Ok it) h k = absurd (let no = never listing_schema it (compiled_in listing_schema sql it Is says h) in let e = rw no at k in cc)

    go : (b : Bool) → (if b then if_select (compiled listing_schema sql) else compiled schema sql) ≡ Ok c → IsIn schema sql c Is
    go true h = listed (compiled listing_schema sql) refl h
    go false h = compiled_in schema sql c Is says h

-- ---- the commands

-- where the name is found
pub record InsertsAt (schema : Schema) (name : List ℕ) (c : Compiled) : Type 0 where
  pub at : ℕ
  pub source : Source
  pub named : table_named schema name ≡ Some at
  pub is : c.command ≡ Insert at source
  pub bare : c.returning ≡ None

shown_none : (schema : Schema) (base : ℕ) (name : List ℕ) (given : List Shown) (out : Option Returning) → given ≡ [] → shows schema base name given ≡ Ok out
    → out ≡ None
unfolding shows
shown_none schema base name [] out none h = cc
shown_none schema base name (s ∷ given) out none h = absurd cc

insert_at : (schema : Schema) (name : List ℕ) (s : Statement) (formats : List Name) (base : ℕ) (c : Compiled) → IsInsert name s
    → returning schema base s ≡ Ok c.returning → command schema formats base s ≡ Ok c.command → InsertsAt schema name c
unfolding returning command insert_or_abort insert
insert_at schema name (text.Insert conflict.Abort found columns rows [] given) formats base c is r h =
    let at = got (target schema found) (λ at. and_then (table_at schema at) (λ table. and_then (new_rows schema table base columns rows) (λ s. Ok
    (Insert at s)))) c.command h in
    let table = got (table_at schema at.0) (λ table. and_then (new_rows schema table base columns rows) (λ s. Ok (Insert at.0 s))) c.command at.2 in
    let source = got (new_rows schema table.0 base columns rows) (λ s. Ok (Insert at.0 s)) c.command table.2 in
    record {
      at = at.0;
      source = source.0;
      named = ap (table_named schema) (sym is.0) ∙ there (table_named schema found) NoSuchTable at.0 at.1;
      is = cc;
      bare = shown_none schema base found given c.returning is.2 r;
    }
insert_at schema name (text.Insert conflict.Abort found columns rows (x ∷ clauses) given) formats base c is r h = absurd (let e = is.1 in cc)
insert_at schema name _ formats base c is r h = absurd is

pub inserts_at : (schema : Schema) (name sql : List ℕ) (c : Compiled) → IsIn schema sql c (IsInsert name) → InsertsAt schema name c
inserts_at schema name sql c it = insert_at schema name it.parsed.statement it.parsed.formats it.base c it.says it.shown it.command_is

pub record Creates (c : Compiled) : Type 0 where
  pub is : c.command ≡ CreateTable
  pub bare : c.returning ≡ None

is_new : (if_missing : Bool) (name : Name) (same other : Option ℕ) (b : Bool) → if_missing ≡ false → creates if_missing name same other ≡ Ok b → b ≡ true
unfolding creates
is_new true name same other b none h = absurd cc
is_new false name same other b none h =
    let one = unless (is_reserved name) Misuse _ b h in
    let two = unless (is_some other) Exists _ b one in
    let three = unless (is_some same) Exists (Ok true) b two in
    cc

create_at : (schema : Schema) (s : Statement) (formats : List Name) (base : ℕ) (c : Compiled) → IsCreate s
    → returning schema base s ≡ Ok c.returning → command schema formats base s ≡ Ok c.command → Creates c
unfolding returning command create_table
create_at schema (text.CreateTable def) formats base c is r h =
    let one = unless (is_attached schema def.name) Unsupported _ c.command h in
    let two = got (creates def.if_missing def.name (option_or (table_named schema def.name) (view_named schema def.name))
    (index_named schema def.name)) _ c.command one in
    let new = is_new def.if_missing def.name _ _ two.0 is two.1 in
    let three = got (define.table formats def)
    (λ t. if length t.computed == length t.stamps.places && not def.resolves then Ok CreateTable else Err Unsupported) c.command (rw new at two.2) in
    record { is = ends (length three.0.computed == length three.0.stamps.places && not def.resolves) three.2; bare = cc }
  where
    ends : (b : Bool) → ◌≡◌ {A = Checked Command} (if b then Ok CreateTable else Err Unsupported) (Ok c.command) → c.command ≡ CreateTable
    ends true e = cc
    ends false e = absurd cc
create_at schema _ formats base c is r h = absurd is

pub creates_at : (schema : Schema) (sql : List ℕ) (c : Compiled) → IsIn schema sql c IsCreate → Creates c
creates_at schema sql c it = create_at schema it.parsed.statement it.parsed.formats it.base c it.says it.shown it.command_is

pub record UpdatesAt (schema : Schema) (name : List ℕ) (c : Compiled) : Type 0 where
  pub at : ℕ
  pub program : Program
  pub named : table_named schema name ≡ Some at
  pub is : c.command ≡ Update at program
  pub bare : c.returning ≡ None

update_at : (schema : Schema) (name : List ℕ) (s : Statement) (formats : List Name) (base : ℕ) (c : Compiled) → IsUpdate name s
    → returning schema base s ≡ Ok c.returning → command schema formats base s ≡ Ok c.command → UpdatesAt schema name c
unfolding returning command update
update_at schema name (text.Update found sets test given) formats base c is r h =
    let at = got (target schema found) (λ at. and_then (table_at schema at) (λ table. and_then (updated schema at table sets test) (λ d. and_then
    (program schema [] d) (λ p. Ok (Update at p))))) c.command h in
    let table = got (table_at schema at.0) (λ table. and_then (updated schema at.0 table sets test) (λ d. and_then (program schema [] d) (λ p. Ok
    (Update at.0 p)))) c.command at.2 in
    let draft = got (updated schema at.0 table.0 sets test) (λ d. and_then (program schema [] d) (λ p. Ok (Update at.0 p))) c.command table.2 in
    let whole = got (program schema [] draft.0) (λ p. Ok (Update at.0 p)) c.command draft.2 in
    record {
      at = at.0;
      program = whole.0;
      named = ap (table_named schema) (sym is.0) ∙ there (table_named schema found) NoSuchTable at.0 at.1;
      is = cc;
      bare = shown_none schema base found given c.returning is.1 r;
    }
update_at schema name _ formats base c is r h = absurd is

pub updates_at : (schema : Schema) (name sql : List ℕ) (c : Compiled) → IsIn schema sql c (IsUpdate name) → UpdatesAt schema name c
updates_at schema name sql c it = update_at schema name it.parsed.statement it.parsed.formats it.base c it.says it.shown it.command_is
