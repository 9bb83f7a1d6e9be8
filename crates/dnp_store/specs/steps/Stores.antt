-- Words of private steps: what the databases of the three stores have alike. (Each has the table `form`, that of its rows
-- under ids that are counted, and that of the counts; a queue has one more.)
use Rattle.std.specs.Prelude.{◌≡◌, IsTrue, ℕ, pos, true, List, [], ◌∷◌, codes}
use Rattle.sqlite.specs.declared.types.Value.TheVariants.{Int}
use Rattle.sqlite.specs.Table.{Table}
use Rattle.sqlite.specs.Term.{Term}
use Rattle.sqlite.specs.Schema.{Schema}
use Rattle.sqlite.specs.Order.{Row}
use Rattle.sqlite.specs.Tree.{Trees}
use Rattle.sqlite.specs.Effect.{Database, IsDatabase}
use Rattle.sqlite.specs.State.{State}
use Rattle.sqlite_schema.specs.declared.schema.Column.{Column}
use Rattle.dnp_store.specs.declared.fault.Unread.{Unread}
use Rattle.dnp_store.specs.declared.store_kind.StoreKind.{StoreKind}
use Rattle.dnp_store.specs.Faults.{is_wrong}
use Rattle.dnp_store.specs.declared.store_kind.StoreKind.TheVariants.{Queue, Journal, Book}
use Rattle.dnp_store.specs.Tables.{form_with, no_schema, only, schema_of, table_of}
use Rattle.dnp_store.specs.QueueTables.{queue_columns, lanes_with}
use Rattle.dnp_store.specs.JournalTables.{journal_columns, journal_names}
use Rattle.dnp_store.specs.BookTables.{book_columns, book_names}
use Rattle.dnp_store.specs.PairTables.{pair_names}
use Rattle.dnp_store.specs.Schemas.{checks_of_form, checks_of_rows}

-- ---- their schemas

abbrev pub name_of : StoreKind → List ℕ
name_of Queue = codes "queue"
name_of Journal = codes "journal"
name_of Book = codes "control"

-- and those of all tables of a store
abbrev pub names_of : StoreKind → List (List ℕ)
names_of Queue = pair_names
names_of Journal = journal_names
names_of Book = book_names

abbrev pub columns_of : StoreKind → List Column
columns_of Queue = queue_columns
columns_of Journal = journal_columns
columns_of Book = book_columns

abbrev pub rows_with : StoreKind → List Term → Table
rows_with kind checks = table_of (name_of kind) 1 (columns_of kind) true true checks

-- what stands behind them: of a queue the CHECKs of its lanes' table tell it, of a journal and a book it may be anything
abbrev pub More : StoreKind → Type 0
More Queue = List Term
More Journal = Schema
More Book = Schema

abbrev pub more_with : (kind : StoreKind) → More kind → Schema
more_with Queue checks = only (lanes_with checks ∷ [])
more_with Journal more = more
more_with Book more = more

abbrev pub schema_for : (kind : StoreKind) → List Term → List Term → More kind → Schema
schema_for kind form rows more = schema_of form (rows_with kind rows) (more_with kind more)

-- ---- what queries show of them

-- a store's database shows this of its trees, and stays as it was
abbrev pub Reads : StoreKind → State → State → (Trees → Type 0) → Type 0
Reads kind old new P =
    (form rows : List Term) (more : More kind) → IsDatabase old.now → old.now.schema ≡ schema_for kind form rows more → (new.now ≡ old.now) × P old.now.trees

-- why they could not be read: the connection was open, and under the schema of such a store its trees don't hold this
abbrev pub Denies : StoreKind → State → Unread → (Trees → Type 0) → Type 0
Denies kind old unread P = IsTrue (is_wrong unread)
    → IsTrue old.is_open
    × ((form rows : List Term) (more : More kind) → IsDatabase old.now → old.now.schema ≡ schema_for kind form rows more → P old.now.trees → ⊥)

-- ---- how they are made

abbrev pub form_schema : List Term → Schema
form_schema form = record { tables = form_with form ∷ []; indexes = []; views = [] }

-- `form` alone is there, and has no row
pub record HasForm (db : Database) : Type 0 where
  pub form : List Term
  pub form_by : form ≡ checks_of_form
  pub schema : db.schema ≡ form_schema form
  pub empty : db.trees 0 ≡ []

-- the three tables are there, and have no row
pub record HasTables (kind : StoreKind) (db : Database) : Type 0 where
  pub form : List Term
  pub rows : List Term
  pub form_by : form ≡ checks_of_form
  pub rows_by : rows ≡ checks_of_rows kind
  pub schema : db.schema ≡ schema_of form (rows_with kind rows) no_schema
  pub empty : (db.trees 0 ≡ []) × (db.trees 1 ≡ []) × (db.trees 2 ≡ [])

abbrev pub number_row : Row
number_row = Int (pos 1) ∷ Int (pos 1) ∷ []

-- `form` has its number, and the others have no row
pub record IsFresh (db : Trees) : Type 0 where
  pub number : db 0 ≡ number_row ∷ []
  pub empty : (db 1 ≡ []) × (db 2 ≡ [])

pub record HasNumber (kind : StoreKind) (db : Database) : Type 0 where
  pub form : List Term
  pub rows : List Term
  pub form_by : form ≡ checks_of_form
  pub rows_by : rows ≡ checks_of_rows kind
  pub schema : db.schema ≡ schema_of form (rows_with kind rows) no_schema
  pub holds : IsFresh db.trees
