-- Words of private steps: what a page of a journal's rows shows, and which rows are left after it.
use Rattle.std.specs.Prelude.{◌≡◌, ℕ, ◌+◌, ◌<◌, ◌≤◌, pos, nat_lt, All, List, [], filter, length, slice_index_or}
use Rattle.sqlite.specs.declared.types.Value.TheVariants.{Int}
use Rattle.sqlite.specs.Order.{Row as SqlRow, column}
use Rattle.sqlite.specs.Tree.{Trees}
use Rattle.dnp_objects.specs.declared.limits.TheConstants.{MAX_ID}
use Rattle.dnp_eventbuf.specs.declared.numbered.Numbered.{Numbered}
use Rattle.dnp_eventbuf.specs.Archive.{Archive, rows_over}
use Rattle.dnp_store.specs.JournalTables.{HoldsArchive, IsStorableArchive}
use Rattle.dnp_store.specs.steps.JournalShown.{AreInOrder, IsStored, ShowEvents, no_event}

-- the rows show the events that follow an id, up to another: with them so many were looked at
pub record ShowsPage (rows : List SqlRow) (from before last after : ℕ) : Type 0 where
  pub events : List Numbered
  pub shown : ShowEvents rows events
  pub rise : AreInOrder from last events
  pub up : from ≤ last
  pub many : after ≡ before + length events

-- the rows show events that follow an id, each value in its column's range
pub record IsPage (rows : List SqlRow) (from : ℕ) : Type 0 where
  pub events : List Numbered
  pub last : ℕ
  pub long : length rows ≡ length events
  pub stored : (k : ℕ) → k < length events → IsStored (slice_index_or rows k []) (slice_index_or events k no_event)
  pub rise : AreInOrder from last events
  pub low : last ≤ MAX_ID

-- the rows show the first of the events over an id, one at least where there is one, and no row ends before its time
pub record ShowFirst (rows : List SqlRow) (a : Archive) (from : ℕ) : Type 0 where
  pub most : ℕ
  pub some : 1 ≤ most
  pub shown : ShowEvents rows (rows_over a from most)
  pub wide : All (λ row. 5 < length row) rows

-- the events over an id
abbrev pub events_over : Archive → ℕ → List Numbered
events_over a last = filter (λ x. nat_lt last x.id) a.rows

-- so many events were looked at, up to an id: with those over it they are all
abbrev pub AreSeen : Archive → ℕ → ℕ → Type 0
AreSeen a last count = count + length (events_over a last) ≡ length a.rows

-- the only row shows this number
pub record ShowsNumber (rows : List SqlRow) (n : ℕ) : Type 0 where
  pub one : length rows ≡ 1
  pub number : column (slice_index_or rows 0 []) 0 ≡ Int (pos n)

-- the trees hold a journal whose values are in range
pub record HoldsStorable (db : Trees) : Type 0 where
  pub archive : Archive
  pub storable : IsStorableArchive archive
  pub holds : HoldsArchive db archive
