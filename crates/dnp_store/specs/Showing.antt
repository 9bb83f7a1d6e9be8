-- Definition: what the queries of a store show of a database, whatever tables it has. Where a table is missing they show nothing.
use Rattle.std.specs.Prelude.{◌≡◌, ℕ, pos, List, [], ◌∷◌, slice_index_or}
use Rattle.sqlite_trees.specs.declared.store.Store.{Ghosts}
use Rattle.sqlite.specs.declared.types.Value.TheVariants.{Int}
use Rattle.sqlite.specs.Effect.{Database}
use Rattle.sqlite.specs.Held.{Held, state}
use Rattle.sqlite.specs.Order.{Row, column}
use Rattle.sqlite.specs.State.{Shown}
use Rattle.dnp_controls.specs.declared.book.Entry.{Entry}
use Rattle.dnp_store.specs.Texts.{book_select, journal_count, journal_select, lanes_select, rows_select}
use Rattle.dnp_eventbuf.specs.declared.numbered.Numbered.{Numbered}
use Rattle.dnp_store.specs.steps.BookShown.{ShowEntries}
use Rattle.dnp_store.specs.steps.JournalShown.{ShowEvents}
use Rattle.dnp_store.specs.steps.Shown.{IsBegun, Restores, ShowNine}
use Rattle.dnp_eventbuf.specs.EventBuffer.{EventBuffer, empty_buffer}
use Rattle.dnp_store.specs.PairTables.{Sides}
use Rattle.dnp_store.specs.QueueTables.{Figures}
use Rattle.dnp_store.specs.Refusals.{IsNumbered}
use Rattle.dnp_store.specs.declared.queue_side.QueueSide.{QueueSide}
use Rattle.dnp_store.specs.declared.queue_side.QueueSide.TheVariants.{First, Second}

-- of this database, the query shows these rows
pub record AreShown {S : Type 0} (g : Ghosts S) (query : List ℕ) (db : Database) (rows : List Row) : Type 0 where
  pub old : Held S
  pub new : Held S
  pub of : (state g old).now ≡ db
  pub shown : Shown query [] (state g old) (state g new) rows

-- `journal` is there, and has so many rows
pub record HasEvents {S : Type 0} (g : Ghosts S) (count : ℕ) (db : Database) : Type 0 where
  pub rows : List Row
  pub shown : AreShown g journal_count db rows
  pub many : column (slice_index_or rows 0 []) 0 ≡ Int (pos count)

-- `journal` is there, and has these first events over an id, of which so many are asked for
pub record HasRows {S : Type 0} (g : Ghosts S) (from most : ℕ) (events : List Numbered) (db : Database) : Type 0 where
  pub old : Held S
  pub new : Held S
  pub of : (state g old).now ≡ db
  pub rows : List Row
  pub shown : Shown journal_select (Int (pos from) ∷ Int (pos most) ∷ []) (state g old) (state g new) rows
  pub are : ShowEvents rows events

-- `control` is there, and has these entries
pub record HasEntries {S : Type 0} (g : Ghosts S) (entries : List Entry) (db : Database) : Type 0 where
  pub rows : List Row
  pub shown : AreShown g book_select db rows
  pub are : ShowEntries rows entries

-- the two tables of a side are there, and have these lanes: each one's capacity, its count of lost rows and its mark, and the rows
pub record HasLanes {S : Type 0} (g : Ghosts S) (side : QueueSide) (lanes : EventBuffer) (db : Database) : Type 0 where
  pub figures : List Figures
  pub lines : List Row
  pub lines_shown : AreShown g (lanes_select side) db lines
  pub nine : ShowNine lines figures
  pub rows : List Row
  pub rows_shown : AreShown g (rows_select side) db rows
  -- the lanes without rows, into which these are put
  pub last : ℕ
  pub bare : EventBuffer
  pub begun : IsBegun bare figures last
  pub restored : Restores 0 rows bare lanes

-- those of both sides are
abbrev pub HasSides : {S : Type 0} → Ghosts S → Sides → Database → Type 0
HasSides g sides db = HasLanes g First sides.first db × HasLanes g Second sides.second db

-- the form is that for one centre, whose lanes these are; those for the second are empty, with these capacities
pub record HasOne {S : Type 0} (g : Ghosts S) (capacities : List ℕ) (sides : Sides) (db : Database) : Type 0 where
  pub number : IsNumbered g 1 db
  pub first : HasLanes g First sides.first db
  pub second : sides.second ≡ empty_buffer capacities
