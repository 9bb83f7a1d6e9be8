-- Words of private steps: what queries show of a journal's tables.
use Rattle.std.specs.Prelude.{◌≡◌, ℕ, ◌<◌, ◌≤◌, pos, List, [], ◌∷◌, ◌++◌, map, length, slice_index_or, None}
use Rattle.std.specs.List.{AllByRecursion}
use Rattle.std.specs.List.Sorted.{IsPermutation}
use Rattle.sqlite.specs.declared.types.Value.TheVariants.{Int}
use Rattle.sqlite.specs.Order.{Row as SqlRow, column}
use Rattle.sqlite.specs.Tree.{Trees, IsAscending}
use Rattle.sqlite.specs.Effect.{Database}
use Rattle.sqlite.specs.State.{State}
use Rattle.dnp_objects.specs.declared.row.Kind.TheVariants.{Binary}
use Rattle.dnp_objects.specs.Lanes.{kind_number}
use Rattle.dnp_objects.specs.declared.limits.TheConstants.{MAX_ID}
use Rattle.dnp_eventbuf.specs.declared.numbered.Numbered.{Numbered}
use Rattle.dnp_eventbuf.specs.Archive.{Archive, rows_over}
use Rattle.dnp_store.specs.Tables.{or_null}
use Rattle.dnp_store.specs.JournalKept.{JournalStands}
use Rattle.dnp_store.specs.JournalTables.{FitsEvent, IsJournal, IsLogged, archive_in}
use Rattle.dnp_store.specs.QueueTables.{Queued, queued_row, event_of}

-- a row that a query shows of `journal`
pub record ShowsEvent (row : SqlRow) (e : Numbered) : Type 0 where
  pub id_is : column row 0 ≡ Int (pos e.id)
  pub kind : column row 1 ≡ Int (pos (kind_number e.row.kind))
  pub index : column row 2 ≡ Int (pos e.row.index)
  pub flags : column row 3 ≡ Int (pos e.row.flags)
  pub value : column row 4 ≡ Int e.row.value
  pub time : column row 5 ≡ or_null e.row.time

abbrev pub no_event : Numbered
no_event = record { id = 0; row = record { kind = Binary; index = 0; flags = 0; value = pos 0; time = None } }

-- the rows show these events
pub record ShowEvents (rows : List SqlRow) (events : List Numbered) : Type 0 where
  pub long : length rows ≡ length events
  pub each : (k : ℕ) → k < length events → ShowsEvent (slice_index_or rows k []) (slice_index_or events k no_event)

-- a row shows an event, each value in its column's range
pub record IsStored (row : SqlRow) (e : Numbered) : Type 0 where
  pub wide : 5 < length row
  pub shown : ShowsEvent row e
  pub fits : FitsEvent e

-- some row shows none
abbrev pub HasNoEvent : List SqlRow → Type 0
HasNoEvent rows = (k : ℕ) × (k < length rows) × ((e : Numbered) → IsStored (slice_index_or rows k []) e → ⊥)

-- rows that show only the events over an id
abbrev pub ShowOver : List SqlRow → Archive → ℕ → ℕ → Type 0
ShowOver rows a from most = (events : List Numbered) → ShowEvents rows events → events ≡ rows_over a from most

-- the events stand under ids that rise from the one before them on, and the last is the last of those
abbrev pub AreInOrder : ℕ → ℕ → List Numbered → Type 0
AreInOrder before last [] = last ≡ before
AreInOrder before last (e ∷ es) = (before < e.id) × (e.id ≤ last) × AreInOrder e.id last es

-- what an open finds: the tables hold so many events, and this is the last id used
pub record Finds (db : Database) (last count : ℕ) : Type 0 where
  pub archive : Archive
  pub holds : IsJournal db archive
  pub last_is : archive.last_id ≡ last
  pub count_is : length archive.rows ≡ count

-- `journal` holds these events, under ids up to the last
pub record Logs (db : Trees) (events : List Numbered) (last : ℕ) : Type 0 where
  pub logged : List Queued
  pub logged_is : IsPermutation (map queued_row logged) (db 1)
  pub rise : IsAscending (λ x y. x.id < y.id) logged
  pub in_range : AllByRecursion (IsLogged last) logged
  pub rows : events ≡ map event_of logged

-- so many rows of `journal` were looked at, whose ids rise up to the last of them, or to 0; the others are left
pub record Gathers (table : List SqlRow) (last count : ℕ) : Type 0 where
  pub logged : List Queued
  pub others : List SqlRow
  pub all : IsPermutation (map queued_row logged ++ others) table
  pub rise : IsAscending (λ x y. x.id < y.id) logged
  pub in_range : AllByRecursion (IsLogged last) logged
  pub many : length logged ≡ count
  pub top : (n : ℕ) → AllByRecursion (λ x. x.id ≤ n) logged → last ≤ n

-- the table has so many rows, if they are not more than ids
abbrev pub HasCount : List SqlRow → ℕ → Type 0
HasCount table n = n ≤ MAX_ID → length table ≡ n

-- `journal` holds so many events, under ids up to the last
pub record LogsMany (db : Trees) (count last : ℕ) : Type 0 where
  pub events : List Numbered
  pub many : length events ≡ count
  pub logs : Logs db events last

-- what an open hands on: a database held the rows that stand in this one, which serves, and so many
pub record IsJournalFound (old : Database) (new : State) (last count : ℕ) : Type 0 where
  pub found : IsJournal old (archive_in new.committed.trees last)
  pub stands : JournalStands new (archive_in new.committed.trees last)
  pub many : count ≡ length (archive_in new.committed.trees last).rows
