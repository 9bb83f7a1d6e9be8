-- What one statement makes of a database of which only the table that it names is known.
use Rattle.std.proofs.Common.{◌≡◌, ◌≢◌, inl, inr, ℕ, suc, ◌+◌, List, [], ◌∷◌, ◌++◌, find, slice_get, Bool, true, false, Option, Some, None, Ok, refl, sym, ap, ap₂, subst, subst₂, ◌∙◌, arith}
use Rattle.std.specs.Prelude.{if◌then◌else◌, is_some, not, ◌&&◌, ◌||◌, ◌==◌, MatchBool, flat_map, option_and_then, option_map}
use Rattle.std.specs.List.{filter_map, position_from}
use Rattle.std.proofs.lemmas.Bool.{cases_Bool}
use Rattle.sqlite_ast.specs.declared.Statement.{Statement}
use Rattle.sqlite_schema.specs.declared.schema.Keys.TheVariants.{Enforced}
use Rattle.sqlite_schema.specs.declared.schema.Reference.{Reference}
use Rattle.sqlite_schema.specs.declared.command.Returning.{Returning}
use Rattle.sqlite_schema.specs.declared.command.Source.{Source}
use Rattle.sqlite_schema.specs.Names.{same_name, table_named}
use Rattle.sqlite_schema.specs.Rules.{ParentKey, declared_order, key_in, key_places, parent_key}
use Rattle.sqlite_value.specs.declared.keys.Order.{Order}
use Rattle.sqlite_schema.specs.declared.program.Program.{Program}
use borrow.Author.Tests.{eqb-true}
use Rattle.sqlite_rules.specs.Calls.{ids_of}
use Rattle.sqlite.specs.Rowids.TheVariants.{Given as IsGiven}
use Rattle.sqlite_rules.specs.Action.{pairs, works, work_by, work_for}
use Rattle.sqlite_rules.specs.declared.action.Deed.{Deed}
use Rattle.sqlite_rules.specs.Lists.{Has}
use Rattle.sqlite_rules.proofs.ActionLemmas.{no_works}
use Rattle.sqlite_rules.proofs.ListLemmas.{all_has}
use Rattle.sqlite_resolve.specs.Compile.{first}
use Rattle.sqlite_resolve.specs.declared.compiled.Compiled.{Compiled}
use Rattle.sqlite.specs.Clock.{timed}
use Rattle.sqlite.specs.Command.{Command}
use Rattle.sqlite.specs.Command.TheVariants.{CreateTable, Insert, Update}
use Rattle.sqlite.specs.Does.{AtPlace, Does, MakesSequence, MakesTable, OnRows, Tally}
use Rattle.sqlite.specs.Edit.{edit_of, taken_by}
use Rattle.sqlite.specs.Effect.{Database, is_query}
use Rattle.sqlite.specs.Listing.{is_select}
use Rattle.sqlite.specs.Order.{Row}
use Rattle.sqlite.specs.Rows.{Task, Written, count_of, rowids_for}
use Rattle.sqlite.specs.Schema.{Schema}
use Rattle.sqlite.specs.State.{Executes, ExecutesIn, Runs, RunsAlone, State, Writes, is_pragma, mode_of, shows_rows, text_of}
use Rattle.sqlite.specs.Table.{Table}
use Rattle.sqlite.specs.Tree.{Trees}
use Rattle.sqlite.proofs.Callers.{one_step}
use Rattle.dnp_store.proofs.Statements.{otherwise, same_value, went, written}
use Rattle.dnp_store.proofs.Understanding.{IsCreate, IsIn, IsInsert, IsUpdate, Says, creates_at, inserts_at, understood_in, updates_at}

-- ---- a name finds a table

abbrev pub is_named : List ℕ → Table → Bool
is_named name t = same_name t.name name

at_place : {X : Type 0} (p : X → Bool) (xs : List X) (from at : ℕ) → position_from p from xs ≡ Some at
    → (i : ℕ) × (at ≡ from + i) × (slice_get xs i ≡ find p xs)
at_place p [] from at none = absurd cc
at_place p (x ∷ xs) from at is = elim (cases_Bool (p x)) [
  | inl passes ↦
      let e : ◌≡◌ {A = Option ℕ} (Some from) (Some at) = rw passes at is in
      let same : from ≡ at = cc in
      (0, omega (arith, same), rw passes refl)
  | inr fails ↦ let rest = at_place p xs (from + 1) at (rw fails at is) in (suc rest.0, omega (arith, rest.1), rw fails rest.2)
]

-- the place that a test finds has what it finds
pub placed : {X : Type 0} (p : X → Bool) (xs : List X) (at : ℕ) → position_from p 0 xs ≡ Some at → slice_get xs at ≡ find p xs
placed p xs at is =
    let it = at_place p xs 0 at is in
    let same : it.0 ≡ at = omega (arith, it.1) in
    subst (λ i. slice_get xs i ≡ find p xs) same it.2

pub find_more : {X : Type 0} (p : X → Bool) (xs ys : List X) (x : X) → find p xs ≡ Some x → find p (xs ++ ys) ≡ Some x
find_more p [] ys x is = absurd cc
find_more p (y ∷ xs) ys x is = elim (cases_Bool (p y)) [
  | inl passes ↦ rw passes (rw passes at is)
  | inr fails ↦ rw fails (find_more p xs ys x
      (rw fails at is))
]

pub find_new : {X : Type 0} (p : X → Bool) (xs ys : List X) (y : X) → ((x : X) → Has xs x → p x ≡ false) → p y ≡ true → find p (xs ++ y ∷ ys) ≡ Some y
find_new p [] ys y none is = rw is refl
find_new p (x ∷ xs) ys y none is = rw (none x (inl refl)) (find_new p xs ys y (λ z h. none z (inr h)) is)

-- ---- what one statement does

pub record Ran (old new : State) (sql : List ℕ) (count : ℕ) (Is : Statement → Type 0) : Type 0 where
  pub compiled : Compiled
  pub is_in : IsIn old.now.schema sql compiled Is
  pub given : Row
  pub runs : RunsAlone false old new sql compiled given (Ok count)

ran : (old new : State) (sql : List ℕ) (params : Row) (count : ℕ) (Is : Statement → Type 0) → Says Is sql (first sql)
    → ((s : Schema) (it : Compiled) → IsIn s sql it Is → is_select it.command ≡ false) → Executes sql params old new (Ok count) → Ran old new sql count Is
unfolding ExecutesIn
ran old new sql params count Is says never h = record {
  compiled = h.0;
  is_in = understood_in old.now.schema sql h.0 Is says never h.1.is;
  given = timed params h.0.formats h.1.now;
  runs = h.2;
}

runs_of : (old new : State) (sql : List ℕ) (count : ℕ) (c : Compiled) (given : Row) (k : Command) → c.command ≡ k → c.returning ≡ None
    → shows_rows false c ≡ false
    → text_of sql c ≡ sql → RunsAlone false old new sql c given (Ok count) → Runs old new None k sql given count
runs_of old new sql count c given k is bare unshown text h =
    let runs : Runs old new c.returning c.command (text_of sql c) given count = otherwise _ (shows_rows false c) unshown h in
    subst (λ t. Runs old new None k t given count) text (subst₂ (λ r k. Runs old new r k (text_of sql c) given count) bare is runs)

shows_nothing : (c : Compiled) (k : Command) → c.command ≡ k → c.returning ≡ None
    → (is_query k || (not false && (is_pragma k || is_some {T = Returning} None))) ≡ false → shows_rows false c ≡ false
shows_nothing c k is bare unshown = ap₂ (λ k r. is_query k || (not false && (is_pragma k || is_some r))) is bare ∙ unshown

pub makes_table : (old new : State) (sql : List ℕ) (params : Row) (count : ℕ) → Says IsCreate sql (first sql) → Executes sql params old new (Ok count)
    → (mid : Database) × MakesTable sql old.now (Ok mid) × MakesSequence mid (Ok new.now)
makes_table old new sql params count says h =
    let it = ran old new sql params count IsCreate says (λ s c i. ap is_select (creates_at s sql c i).is) h in
    let w = creates_at old.now.schema sql it.compiled it.is_in in
    let runs : Writes old new None CreateTable sql it.given count = runs_of old new sql count it.compiled it.given CreateTable w.is w.bare
    (shows_nothing it.compiled CreateTable w.is w.bare refl) it.is_in.text_is it.runs in
    let does : Does old.step_limit (mode_of old) it.given old.now sql None CreateTable (Ok (runs.tally, new.now)) = runs.changed in
    let outer = went does in
    let inner = went outer.1 in
    let end : new.now ≡ outer.0 = ap (λ (p : Tally × Database). p.1) (same_value outer.2) in
    (inner.0, inner.1, subst (λ d. MakesSequence inner.0 (Ok d)) (sym end) inner.2)

-- the table that the name finds changes, and no other
pub record InsertsInto (name : List ℕ) (before after : Database) : Type 0 where
  pub table : Table
  pub found : find (is_named name) before.schema.tables ≡ Some table
  pub schema : after.schema ≡ before.schema
  pub rows : table.is_counted ≡ false → (t : Table) → Has before.schema.tables t → t.tree ≢ table.tree → after.trees t.tree ≡ before.trees t.tree

uncounted_on : {Y : Type 0} (X : Type 0) (counted more : Bool) → counted ≡ false → MatchBool (if counted then more else false) X Y → Y
uncounted_on X true more is h = absurd cc
uncounted_on X false more is h = h

inserts_on : (old : State) (name sql : List ℕ) (given : Row) (source : Source) (at : ℕ) (tally : Tally) (now : Database)
    → table_named old.now.schema name ≡ Some at
    → Does old.step_limit (mode_of old) given old.now sql None (Insert at source) (Ok (tally, now)) → InsertsInto name old.now now
inserts_on old name sql given source at tally now named does = go (slice_get old.now.schema.tables at) refl does
  where
    task_of : Table → Task
    task_of table = record { limit = old.step_limit; keys = Enforced; schema = old.now.schema; table = table; params = given }

    go : (o : Option Table) → slice_get old.now.schema.tables at ≡ o
        → AtPlace (λ table. OnRows (record { limit = old.step_limit; keys = Enforced; schema = old.now.schema; table = table; params = given })
        (mode_of old) None (Insert at source) old.now.trees) o (Ok (tally, now))
        → InsertsInto name old.now now
    go None e h = absurd cc
    go (Some table) e h =
        let task : Task = record { limit = old.step_limit; keys = Enforced; schema = old.now.schema; table = table; params = given } in
        let done = written task (mode_of old) (Insert at source) old.now.trees tally now h in
        let rows = went done.1 in
        let counter = went rows.2 in
        let mid = went counter.2 in
        let next = went mid.2 in
        let edit = edit_of old.now.trees table [] (rowids_for table (count_of counter.0)) 0 rows.0 in
        let step = one_step old.now.schema Enforced old.now.trees mid.0 edit (no_works old.now.schema Enforced 0 table.tree edit.news) mid.1 in
        let last : next.0 ≡ done.0.trees = ap (λ (w : Written). w.trees) (sym (same_value next.2)) in
        record {
          table = table;
          found = sym (placed (is_named name) old.now.schema.tables at named) ∙ e;
          schema = ap (λ (d : Database). d.schema) done.2;
          rows = λ uncounted t has apart.
              let same : next.0 ≡ mid.0 = same_value (uncounted_on _ table.is_counted _ uncounted next.1) in
              ap (λ (d : Database). d.trees t.tree) done.2 ∙ ap (λ (db : Trees). db t.tree) (sym last ∙ same)
              ∙ all_has (λ (u : Table). u.tree ≢ table.tree → mid.0 u.tree ≡ old.now.trees u.tree) old.now.schema.tables t step.tables has apart;
        }

pub inserts_into : (old new : State) (name sql : List ℕ) (params : Row) (count : ℕ) → Says (IsInsert name) sql (first sql)
    → Executes sql params old new (Ok count)
    → InsertsInto name old.now new.now
inserts_into old new name sql params count says h =
    let it = ran old new sql params count (IsInsert name) says (λ s c i. ap is_select (inserts_at s name sql c i).is) h in
    let w = inserts_at old.now.schema name sql it.compiled it.is_in in
    let runs : Writes old new None (Insert w.at w.source) sql it.given count = runs_of old new sql count it.compiled it.given (Insert w.at w.source) w.is w.bare
    (shows_nothing it.compiled (Insert w.at w.source) w.is w.bare refl) it.is_in.text_is it.runs in
    inserts_on old name sql it.given w.source w.at runs.tally new.now w.named runs.changed

-- ---- a statement that takes rows out

flat_none_in : {X Y : Type 0} (f : X → List Y) (xs : List X) → ((x : X) → Has xs x → f x ≡ []) → flat_map f xs ≡ []
flat_none_in f [] none = refl
flat_none_in f (x ∷ xs) none = rw (none x (inl refl)) (flat_none_in f xs (λ y h. none y (inr h)))

filter_none_in : {X Y : Type 0} (f : X → Option Y) (xs : List X) → ((x : X) → Has xs x → f x ≡ None) → filter_map f xs ≡ []
filter_none_in f [] none = refl
filter_none_in f (x ∷ xs) none = rw (none x (inl refl)) (filter_none_in f xs (λ y h. none y (inr h)))

-- the name of each foreign key's parent finds no table in this tree
abbrev pub IsSpared : ℕ → List Table → Type 0
IsSpared tree tables = (child : Table) → Has tables child → (ref : Reference) → Has child.references ref → (t : Table) → find (λ
    (u : Table). same_name u.name ref.parent) tables ≡ Some t
    → t.tree ≢ tree

key_tree_of : (o : Option Table) (ref : Reference) (key : ParentKey)
    → option_and_then (λ t. option_and_then (key_in t) (key_places t ref.parent_columns)) o ≡ Some key
    → (t : Table) × (o ≡ Some t) × (key.0 ≡ t.tree)
key_tree_of None ref key is = absurd cc
key_tree_of (Some t) ref key is = (t, refl, places (key_places t ref.parent_columns) is)
  where
    orders : (ps : List ℕ) (o : Option Order) → option_map (λ o. (t.tree, ps, o)) o ≡ Some key → key.0 ≡ t.tree
    orders ps None h = absurd cc
    orders ps (Some o) h = let e : ◌≡◌ {A = ParentKey} (t.tree, ps, o) key = cc in ap (λ (k : ParentKey). k.0) (sym e)

    places : (o : Option (List ℕ)) → option_and_then (key_in t) o ≡ Some key → key.0 ≡ t.tree
    places None h = absurd cc
    places (Some ps) h = orders ps (declared_order t ps) h

work_apart : (tree : ℕ) (moves : List (Row × Row)) (child : Table) (ref : Reference) (deed : Option Deed) (key : Option ParentKey)
    → ((k : ParentKey) → key ≡ Some k → k.0 ≢ tree) → work_by 0 tree moves child ref deed key ≡ None
work_apart tree moves child ref None key apart = refl
work_apart tree moves child ref (Some deed) None apart = refl
work_apart tree moves child ref (Some deed) (Some key) apart = elim (cases_Bool (key.0 == tree)) [
  | inl same ↦ absurd (apart key refl (eqb-true key.0 tree same))
  | inr other ↦ rw other refl
]

pub spared_works : (schema : Schema) (tree : ℕ) (olds news : List Row) → IsSpared tree schema.tables → works schema Enforced 0 tree olds news ≡ []
spared_works schema tree olds news spared =
    flat_none_in (λ (child : Table). filter_map (work_for schema Enforced 0 tree olds news child) child.references) schema.tables (λ child has.
    filter_none_in (work_for schema Enforced 0 tree olds news child) child.references (λ ref refers.
    work_apart tree (pairs olds news) child ref _ (parent_key schema.tables ref) (λ key is.
    let found = key_tree_of (find (λ (u : Table). same_name u.name ref.parent) schema.tables) ref key is in
    λ same. spared child has ref refers found.0 found.1 (sym found.2 ∙ same))))

-- the table that the name finds changes, and no other that no key acts on
pub record UpdatesIn (name : List ℕ) (before after : Database) : Type 0 where
  pub table : Table
  pub found : find (is_named name) before.schema.tables ≡ Some table
  pub schema : after.schema ≡ before.schema
  pub rows : IsSpared table.tree before.schema.tables → (t : Table) → Has before.schema.tables t → t.tree ≢ table.tree
      → after.trees t.tree ≡ before.trees t.tree

updates_on : (old : State) (name sql : List ℕ) (given : Row) (q : Program) (at : ℕ) (tally : Tally) (now : Database)
    → table_named old.now.schema name ≡ Some at
    → Does old.step_limit (mode_of old) given old.now sql None (Update at q) (Ok (tally, now)) → UpdatesIn name old.now now
updates_on old name sql given q at tally now named does = go (slice_get old.now.schema.tables at) refl does
  where
    go : (o : Option Table) → slice_get old.now.schema.tables at ≡ o
        → AtPlace (λ table. OnRows (record { limit = old.step_limit; keys = Enforced; schema = old.now.schema; table = table; params = given })
        (mode_of old) None (Update at q) old.now.trees) o (Ok (tally, now))
        → UpdatesIn name old.now now
    go None e h = absurd cc
    go (Some table) e h =
        let task : Task = record { limit = old.step_limit; keys = Enforced; schema = old.now.schema; table = table; params = given } in
        let done = written task (mode_of old) (Update at q) old.now.trees tally now h in
        let rows = went done.1 in
        let next = went rows.2 in
        let edit = edit_of old.now.trees table (ids_of rows.0) IsGiven 1 rows.0 in
        let last : next.0 ≡ done.0.trees = ap (λ (w : Written). w.trees) (sym (same_value next.2)) in
        record {
          table = table;
          found = sym (placed (is_named name) old.now.schema.tables at named) ∙ e;
          schema = ap (λ (d : Database). d.schema) done.2;
          rows = λ spared t has apart.
              let step = one_step old.now.schema Enforced old.now.trees next.0 edit (spared_works old.now.schema table.tree
              (taken_by old.now.trees edit) edit.news spared) next.1 in
              ap (λ (d : Database). d.trees t.tree) done.2 ∙ ap (λ (db : Trees). db t.tree) (sym last)
              ∙ all_has (λ (u : Table). u.tree ≢ table.tree → next.0 u.tree ≡ old.now.trees u.tree) old.now.schema.tables t step.tables has apart;
        }

pub updates_in : (old new : State) (name sql : List ℕ) (params : Row) (count : ℕ) → Says (IsUpdate name) sql (first sql)
    → Executes sql params old new (Ok count)
    → UpdatesIn name old.now new.now
updates_in old new name sql params count says h =
    let it = ran old new sql params count (IsUpdate name) says (λ s c i. ap is_select (updates_at s name sql c i).is) h in
    let w = updates_at old.now.schema name sql it.compiled it.is_in in
    let runs : Writes old new None (Update w.at w.program) sql it.given count = runs_of old new sql count it.compiled it.given
    (Update w.at w.program) w.is w.bare
    (shows_nothing it.compiled (Update w.at w.program) w.is w.bare refl) it.is_in.text_is it.runs in
    updates_on old name sql it.given w.program w.at runs.tally new.now w.named runs.changed
