-- Definition: the tables of a book of controls, and the entries that they hold (an own form: IEEE Std 1815-2012 knows no
-- stored tables).
use Rattle.std.specs.Prelude.{◌≡◌, ◌<◌, ◌≤◌, ◌^◌, All, ℕ, ℤ, pos, true, false, List, [], ◌∷◌, map, codes}
use Rattle.std.specs.List.Sorted.{IsPermutation}
use Rattle.sqlite.specs.declared.types.Value.TheVariants.{Null, Int}
use Rattle.sqlite.specs.Table.{Table}
use Rattle.sqlite.specs.Term.{Term}
use Rattle.sqlite.specs.Schema.{Schema}
use Rattle.sqlite.specs.Kind.TheVariants.{Integer}
use Rattle.sqlite.specs.Order.{Row as SqlRow}
use Rattle.sqlite.specs.Tree.{Trees}
use Rattle.sqlite.specs.Effect.{Database}
use Rattle.sqlite_schema.specs.declared.schema.Column.{Column}
use Rattle.dnp_objects.specs.declared.command.Command.{Command}
use Rattle.dnp_objects.specs.declared.command.Command.TheVariants.{Block, Set16, Set32}
use Rattle.dnp_objects.specs.declared.limits.TheConstants.{MAX_ID}
use Rattle.dnp_objects.specs.Commands.{IsInRange, index_of}
use Rattle.dnp_controls.specs.declared.limits.TheConstants.{TARGETS}
use Rattle.dnp_controls.specs.declared.book.Entry.{Entry}
use Rattle.dnp_controls.specs.declared.book.State.{State}
use Rattle.dnp_controls.specs.declared.book.State.TheVariants.{Pending, Spent, Finished}
use Rattle.dnp_controls.specs.Book.{IsSoundLedger, Ledger}
use Rattle.dnp_store.specs.Tables.{AreBehind, column_of, table_of, schema_of, IsCounted}
use Rattle.dnp_store.specs.QueueTables.{IsForm1}

-- ---- the tables

abbrev pub book_columns : List Column
book_columns =
    column_of (codes "id") Integer false ∷ column_of (codes "target") Integer true ∷ column_of (codes "kind") Integer true
    ∷ column_of (codes "point") Integer true ∷ column_of (codes "code") Integer true ∷ column_of (codes "count") Integer true
    ∷ column_of (codes "on_ms") Integer true ∷ column_of (codes "off_ms") Integer true ∷ column_of (codes "value") Integer true
    ∷ column_of (codes "state") Integer true ∷ column_of (codes "status") Integer true ∷ []

abbrev pub book_with : List Term → Table
book_with checks = table_of (codes "control") 1 book_columns true true checks

abbrev pub book_names : List (List ℕ)
book_names = codes "form" ∷ codes "control" ∷ codes "sqlite_sequence" ∷ []

-- its own tables come first
abbrev pub book_schema : List Term → List Term → Schema → Schema
book_schema form control more = schema_of form (book_with control) more

-- ---- a row of `control`: a command by its kind and its fields, 0 for those that the kind doesn't have

abbrev pub kind_of : Command → ℕ
kind_of (Block index code count on off) = 0
kind_of (Set16 index value) = 1
kind_of (Set32 index value) = 2

abbrev pub code_of : Command → ℕ
code_of (Block index code count on off) = code
code_of (Set16 index value) = 0
code_of (Set32 index value) = 0

abbrev pub count_of : Command → ℕ
count_of (Block index code count on off) = count
count_of (Set16 index value) = 0
count_of (Set32 index value) = 0

abbrev pub on_of : Command → ℕ
on_of (Block index code count on off) = on
on_of (Set16 index value) = 0
on_of (Set32 index value) = 0

abbrev pub off_of : Command → ℕ
off_of (Block index code count on off) = off
off_of (Set16 index value) = 0
off_of (Set32 index value) = 0

abbrev pub value_of : Command → ℤ
value_of (Block index code count on off) = pos 0
value_of (Set16 index value) = value
value_of (Set32 index value) = value

-- and a state by its number and the status that became of it
abbrev pub state_of : State → ℕ
state_of Pending = 0
state_of Spent = 1
state_of (Finished status) = 2

abbrev pub status_of : State → ℕ
status_of Pending = 0
status_of Spent = 0
status_of (Finished status) = status

-- each value of a command and of an entry is in its column's range
pub record FitsCommand (command : Command) : Type 0 where
  pub index : index_of command < 2 ^ 16
  pub code : code_of command < 2 ^ 8
  pub count : count_of command < 2 ^ 8
  pub in_range : IsInRange command

pub record FitsControl (e : Entry) : Type 0 where
  pub target : e.target < TARGETS
  pub command : FitsCommand e.command
  pub status : status_of e.state < 2 ^ 7

-- a book may hold them: they are sound, and each value is in its column's range
pub record IsStorable (book : Ledger) : Type 0 where
  pub sound : IsSoundLedger book
  pub last_in_range : book.last_id ≤ MAX_ID
  pub fit : All FitsControl book.entries

abbrev pub entry_cells : Entry → SqlRow
entry_cells e =
    Null ∷ Int (pos e.target) ∷ Int (pos (kind_of e.command)) ∷ Int (pos (index_of e.command)) ∷ Int (pos (code_of e.command))
    ∷ Int (pos (count_of e.command)) ∷ Int (pos (on_of e.command)) ∷ Int (pos (off_of e.command)) ∷ Int (value_of e.command)
    ∷ Int (pos (state_of e.state)) ∷ Int (pos (status_of e.state)) ∷ []

-- it stands under its id
abbrev pub entry_row : Entry → SqlRow
entry_row e = Int (pos e.id) ∷ entry_cells e

-- ---- the entries that the tables hold; in a table rows stand in no order

pub record HoldsBook (db : Trees) (book : Ledger) : Type 0 where
  pub form : IsForm1 (db 0)
  pub entries : IsPermutation (map entry_row book.entries) (db 1)
  pub counted : IsCounted (codes "control") (db 2) book.last_id

-- the database's first tables are a book's, what stands behind leaves them alone, and they hold these entries
pub record IsBook (db : Database) (book : Ledger) : Type 0 where
  pub form_checks : List Term
  pub control_checks : List Term
  pub more : Schema
  pub schema : db.schema ≡ book_schema form_checks control_checks more
  pub behind : AreBehind book_names more
  pub holds : HoldsBook db.trees book
