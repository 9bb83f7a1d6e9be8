-- Words of private steps: what queries show of a book's tables.
use Rattle.std.specs.Prelude.{◌≡◌, ℕ, ◌<◌, ◌≤◌, pos, List, [], ◌∷◌, map, length, slice_index_or}
use Rattle.std.specs.List.Sorted.{IsPermutation}
use Rattle.sqlite.specs.declared.types.Value.TheVariants.{Int}
use Rattle.sqlite.specs.Order.{Row as SqlRow, column}
use Rattle.sqlite.specs.Tree.{Trees}
use Rattle.sqlite.specs.Effect.{Database}
use Rattle.sqlite.specs.State.{State}
use Rattle.dnp_objects.specs.declared.command.Command.{Command}
use Rattle.dnp_objects.specs.declared.command.Command.TheVariants.{Set16}
use Rattle.dnp_objects.specs.Commands.{index_of}
use Rattle.dnp_controls.specs.declared.book.Entry.{Entry}
use Rattle.dnp_controls.specs.declared.book.State.{State as Control}
use Rattle.dnp_controls.specs.declared.book.State.TheVariants.{Pending}
use Rattle.dnp_store.specs.BookKept.{BookStands}
use Rattle.dnp_store.specs.BookTables.{FitsControl, IsBook, entry_row, kind_of, code_of, count_of, on_of, off_of, value_of, state_of, status_of}

-- a row that a query shows of `control`: its command
pub record ShowsCommand (row : SqlRow) (command : Command) : Type 0 where
  pub kind : column row 2 ≡ Int (pos (kind_of command))
  pub index : column row 3 ≡ Int (pos (index_of command))
  pub code : column row 4 ≡ Int (pos (code_of command))
  pub count : column row 5 ≡ Int (pos (count_of command))
  pub on : column row 6 ≡ Int (pos (on_of command))
  pub off : column row 7 ≡ Int (pos (off_of command))
  pub value : column row 8 ≡ Int (value_of command)

-- and its state
pub record ShowsState (row : SqlRow) (control : Control) : Type 0 where
  pub number : column row 9 ≡ Int (pos (state_of control))
  pub status : column row 10 ≡ Int (pos (status_of control))

pub record ShowsEntry (row : SqlRow) (e : Entry) : Type 0 where
  pub id_is : column row 0 ≡ Int (pos e.id)
  pub target : column row 1 ≡ Int (pos e.target)
  pub command : ShowsCommand row e.command
  pub control : ShowsState row e.state

abbrev pub no_entry : Entry
no_entry = record { id = 0; target = 0; command = Set16 0 (pos 0); state = Pending }

-- the rows show these entries
pub record ShowEntries (rows : List SqlRow) (entries : List Entry) : Type 0 where
  pub long : length rows ≡ length entries
  pub each : (k : ℕ) → k < length entries → ShowsEntry (slice_index_or rows k []) (slice_index_or entries k no_entry)

-- some row shows none, each value in its column's range
abbrev pub HasNoEntry : List SqlRow → Type 0
HasNoEntry rows = (k : ℕ) × (k < length rows) × ((e : Entry) → FitsControl e → ShowsEntry (slice_index_or rows k []) e → ⊥)

-- the entries stand under ids that rise from one on, up to the last
abbrev pub EntriesRise : ℕ → ℕ → List Entry → Type 0
EntriesRise before last [] = Unit {0}
EntriesRise before last (e ∷ es) = (before < e.id) × (e.id ≤ last) × EntriesRise e.id last es

-- `control` holds these entries
abbrev pub HoldsEntries : Trees → List Entry → Type 0
HoldsEntries db entries = IsPermutation (map entry_row entries) (db 1)

-- what an open finds: the tables hold these entries, and this is the last id used
abbrev pub FindsBook : Database → List Entry → ℕ → Type 0
FindsBook db entries last = IsBook db (record { entries = entries; last_id = last })

-- what an open hands on: a database held these entries, and they stand in this one, which serves
pub record IsBookFound (old : Database) (new : State) (entries : List Entry) (last : ℕ) : Type 0 where
  pub found : IsBook old (record { entries = entries; last_id = last })
  pub stands : BookStands new (record { entries = entries; last_id = last })
