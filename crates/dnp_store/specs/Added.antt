-- Definition: what a store adds to a database, whatever else stands there: its own statements ran, each once and in order, and
-- no other.
use Rattle.std.specs.Prelude.{◌≡◌, ◌≢◌, ℕ, ◌+◌, pos, false, List, [], ◌∷◌, ◌++◌, find, IfSome, Ok}
use Rattle.std.specs.List.{AllByRecursion}
use Rattle.sqlite_trees.specs.declared.store.Store.{Ghosts}
use Rattle.sqlite_catalog.specs.Change.{KeepsRows}
use Rattle.sqlite_rules.specs.Lists.{Has}
use Rattle.sqlite_schema.specs.Names.{same_name}
use Rattle.sqlite.specs.declared.types.Value.TheVariants.{Int}
use Rattle.sqlite.specs.Effect.{Database}
use Rattle.sqlite.specs.Held.{Held, state}
use Rattle.sqlite.specs.Order.{Row}
use Rattle.sqlite.specs.Schema.{Schema}
use Rattle.sqlite.specs.State.{Executes}
use Rattle.sqlite.specs.Tree.{Trees}
use Rattle.dnp_store.specs.declared.store_kind.StoreKind.{StoreKind}
use Rattle.dnp_store.specs.declared.store_kind.StoreKind.TheVariants.{Queue}
use Rattle.dnp_store.specs.PairTables.{HoldsMigrated}
use Rattle.dnp_store.specs.Schemas.{form_text, lanes_b_text, lanes_text, queue_b_text, rows_text}
use Rattle.dnp_store.specs.Tables.{no_schema}
use Rattle.dnp_store.specs.Texts.{form_insert, form_update, lanes_b_insert, lanes_insert}

-- ---- statements

-- a statement and what it is given
abbrev pub Statement : Type 0
Statement = List ℕ × Row

-- it ran, and made the second database of the first
abbrev pub Makes : {S : Type 0} → Ghosts S → Statement → Database → Database → Type 0
Makes {S} g it before after =
    (old new : Held S) × (count : ℕ) × ((state g old).now ≡ before) × ((state g new).now ≡ after) × Executes it.0 it.1 (state g old) (state g new) (Ok count)

-- all of them ran, one after the other
abbrev pub MakeAll : {S : Type 0} → Ghosts S → List Statement → Database → Database → Type 0
MakeAll g [] before after = after ≡ before
MakeAll g (it ∷ more) before after = (between : Database) × Makes g it before between × MakeAll g more between after

-- the trees are those of a database that they made
abbrev pub AreMadeBy : {S : Type 0} → Ghosts S → List Statement → Database → Trees → Type 0
AreMadeBy g its before trees = (after : Database) × MakeAll g its before after × (trees ≡ after.trees)

-- ---- those that make a store

-- a journal or a book, and what a queue begins with: its tables, and the number of the form
abbrev pub making_tables : StoreKind → List Statement
making_tables kind = (form_text, []) ∷ (rows_text kind, []) ∷ (form_insert, []) ∷ []

-- lanes of these capacities, from a number on
abbrev pub making_lanes : List ℕ → ℕ → List ℕ → List Statement
making_lanes text number [] = []
making_lanes text number (capacity ∷ more) = (text, Int (pos number) ∷ Int (pos capacity) ∷ []) ∷ making_lanes text (number + 1) more

-- a queue for two centres of one for one centre
abbrev pub making_second : List ℕ → List Statement
making_second capacities = (queue_b_text, []) ∷ (lanes_b_text, []) ∷ (making_lanes lanes_b_insert 0 capacities ++ (form_update, []) ∷ [])

-- a queue for two centres
abbrev pub making_queue : List ℕ → List ℕ → List Statement
making_queue first second = (making_tables Queue ++ ((lanes_text, []) ∷ making_lanes lanes_insert 0 first)) ++ making_second second

-- ---- what a crash leaves of a call that makes one

-- what these statements make of the database, and this where it had no tables
abbrev pub LeavesMade : {S : Type 0} → Ghosts S → List Statement → (Trees → Type 0) → Database → Trees → Type 0
LeavesMade g its Fresh before trees = (before.schema ≡ no_schema → Fresh trees) × AreMadeBy g its before trees

-- what those for the second centre make of it, with the lanes that it held if it was a queue's for one
abbrev pub LeavesSecond : {S : Type 0} → Ghosts S → Database → List ℕ → Trees → Type 0
LeavesSecond g before capacities trees = HoldsMigrated before capacities trees × AreMadeBy g (making_second capacities) before trees

-- ---- the tables beside

-- no foreign key of these tables names this one
abbrev pub NoneNames : List ℕ → Schema → Type 0
NoneNames name schema = AllByRecursion (λ t. AllByRecursion (λ key. same_name name key.parent ≡ false) t.references) schema.tables

-- no foreign key of these tables points to one in this tree
abbrev pub NonePoints : ℕ → Schema → Type 0
NonePoints tree schema = AllByRecursion (λ t. AllByRecursion (λ key. IfSome (find (λ u. same_name u.name key.parent) schema.tables)
    (λ u. u.tree ≢ tree)) t.references) schema.tables

-- each table that was there has the rows that it had
abbrev pub KeepsTables : Database → Trees → Type 0
KeepsTables before trees = KeepsRows before.schema.tables before.trees trees

-- so has each in another tree than this
abbrev pub KeepsTablesBut : ℕ → Database → Trees → Type 0
KeepsTablesBut tree before trees = AllByRecursion (λ t. t.tree ≢ tree → trees t.tree ≡ before.trees t.tree) before.schema.tables

-- each table that was there is there
abbrev pub ListsTables : Database → Database → Type 0
ListsTables before after = AllByRecursion (λ t. Has after.schema.tables t) before.schema.tables
