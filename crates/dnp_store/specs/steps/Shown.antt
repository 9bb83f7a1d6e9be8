-- Words of private steps: what queries show of tables, and the lanes that are put together from it.
use Rattle.std.specs.Prelude.{◌≡◌, ◌≢◌, ◌⊎◌, ℕ, ◌<◌, ◌≤◌, ◌^◌, ℤ, pos, Bool, IsTrue, true, if◌then◌else◌, List, [], ◌∷◌, map, length, slice_index_or}
use Rattle.std.specs.List.{AllByRecursion}
use Rattle.std.specs.List.Sorted.{IsPermutation}
use Rattle.sqlite.specs.declared.types.Value.TheVariants.{Int, Text}
use Rattle.sqlite.specs.Order.{Row as SqlRow, column}
use Rattle.sqlite.specs.Tree.{IsAscending}
use Rattle.dnp_objects.specs.declared.limits.TheConstants.{LANES, MAX_ID}
use Rattle.dnp_objects.specs.declared.lane.LaneRow.{LaneRow}
use Rattle.dnp_objects.specs.Lanes.{lane_number}
use Rattle.dnp_eventbuf.specs.declared.plain.TheConstants.{MAX_CAPACITY}
use Rattle.dnp_eventbuf.specs.FitsLane.{FitsLane}
use Rattle.dnp_eventbuf.specs.Restored.{with_old_row, fits_behind}
use Rattle.dnp_eventbuf.specs.EventBuffer.{EventBuffer, lane_at}
use Rattle.dnp_store.specs.Tables.{or_null}
use Rattle.dnp_store.specs.QueueTables.{Queued, queued_row, Figures, no_figures, in_lane, is_raised}

-- ---- `form`

-- one row, with the number 1
pub record ShowsForm1 (rows : List SqlRow) (id : ℤ) : Type 0 where
  pub one : length rows ≡ 1
  pub id_is : column (slice_index_or rows 0 []) 0 ≡ Int id
  pub number : column (slice_index_or rows 0 []) 1 ≡ Int (pos 1)

-- one row, with this number
pub record ShowsForm (rows : List SqlRow) (n : ℕ) : Type 0 where
  pub id : ℤ
  pub one : length rows ≡ 1
  pub id_is : column (slice_index_or rows 0 []) 0 ≡ Int id
  pub number : column (slice_index_or rows 0 []) 1 ≡ Int (pos n)

-- ---- `lanes`

pub record ShowsFigures (row : SqlRow) (number : ℕ) (f : Figures) : Type 0 where
  pub lane : column row 0 ≡ Int (pos number)
  pub capacity : column row 1 ≡ Int (pos f.capacity)
  pub lost : column row 2 ≡ Int (pos f.lost)
  pub raised : column row 3 ≡ Int (if f.raised then pos 1 else pos 0)

pub record AreInRange (f : Figures) : Type 0 where
  pub takes_one : 1 ≤ f.capacity
  pub takes_most : f.capacity ≤ MAX_CAPACITY
  pub lost : f.lost ≤ MAX_ID

-- nine figures in their ranges
pub record AreNine (figures : List Figures) : Type 0 where
  pub nine : length figures ≡ LANES
  pub in_range : (k : ℕ) → k < LANES → AreInRange (slice_index_or figures k no_figures)

-- nine rows, one for each lane
pub record ShowNine (rows : List SqlRow) (figures : List Figures) : Type 0 where
  pub rows_nine : length rows ≡ LANES
  pub each : (k : ℕ) → k < LANES → ShowsFigures (slice_index_or rows k []) k (slice_index_or figures k no_figures)

-- they are not nine, or some row doesn't show its lane's
abbrev pub LackNine : List SqlRow → Type 0
LackNine rows =
    (length rows ≢ LANES) ⊎ ((k : ℕ) × (k < LANES) × ((f : Figures) → ShowsFigures (slice_index_or rows k []) k f → AreInRange f → ⊥))

-- lanes without rows
pub record IsBegun (s : EventBuffer) (figures : List Figures) (last : ℕ) : Type 0 where
  pub nine : length s.lanes ≡ LANES
  pub lanes : (k : ℕ) → k < LANES
      → lane_at s k ≡ record { capacity = (slice_index_or figures k no_figures).capacity; rows = []; lost = (slice_index_or figures k no_figures).lost }
  pub overflow : s.overflow ≡ is_raised figures
  pub last_is : s.last_id ≡ last

-- ---- `sqlite_sequence`

pub record ShowsCountOf (table : List ℕ) (row : SqlRow) (id : ℤ) (n : ℕ) : Type 0 where
  pub id_is : column row 0 ≡ Int id
  pub name : column row 1 ≡ Text table
  pub count : column row 2 ≡ Int (pos n)

-- for the table of this name
abbrev pub ShowsCount : List ℕ → List SqlRow → ℕ → Type 0
ShowsCount table rows n =
    ((length rows ≡ 0) × (n ≡ 0))
    ⊎ ((id : ℤ) × (length rows ≡ 1) × ShowsCountOf table (slice_index_or rows 0 []) id n)

-- of two tables, each is counted once at most, under ids that differ, and nothing else is
abbrev pub ShowsTwo : List ℕ → List ℕ → List SqlRow → ℕ → ℕ → Type 0
ShowsTwo first second [] n m = (n ≡ 0) × (m ≡ 0)
ShowsTwo first second (r ∷ []) n m = ((id : ℤ) × ShowsCountOf first r id n × (m ≡ 0)) ⊎ ((id : ℤ) × ShowsCountOf second r id m × (n ≡ 0))
ShowsTwo first second (r ∷ s ∷ []) n m =
    ((id : ℤ) × (next : ℤ) × ShowsCountOf first r id n × ShowsCountOf second s next m × (id ≢ next))
    ⊎ ((id : ℤ) × (next : ℤ) × ShowsCountOf second r id m × ShowsCountOf first s next n × (id ≢ next))
ShowsTwo first second (r ∷ s ∷ t ∷ rows) n m = ⊥

-- no row notes a greater number for the table of this name
abbrev pub IsMost : List ℕ → List SqlRow → ℕ → Type 0
IsMost table rows most = (k : ℕ) → k < length rows → (id : ℤ) (n : ℕ) → ShowsCountOf table (slice_index_or rows k []) id n → n ≤ most

-- a row notes this number for the table of this name, or it is 0; and none notes a greater one
pub record IsNoted (table : List ℕ) (rows : List SqlRow) (n : ℕ) : Type 0 where
  pub noted : (n ≡ 0) ⊎ ((k : ℕ) × (k < length rows) × (id : ℤ) × ShowsCountOf table (slice_index_or rows k []) id n)
  pub most : IsMost table rows n

-- the rows show ids up to this one
abbrev pub ShowIds : List SqlRow → ℕ → Type 0
ShowIds rows last = (k : ℕ) → k < length rows → (id : ℕ) × (column (slice_index_or rows k []) 0 ≡ Int (pos id)) × (id ≤ last)

-- ---- `queue`

pub record ShowsQueued (row : SqlRow) (id : ℕ) (x : LaneRow) : Type 0 where
  pub id_is : column row 0 ≡ Int (pos id)
  pub low : lane_number x.lane < LANES
  pub lane : column row 1 ≡ Int (pos (lane_number x.lane))
  pub index : column row 2 ≡ Int (pos x.row.index)
  pub flags : column row 3 ≡ Int (pos x.row.flags)
  pub value : column row 4 ≡ Int x.row.value
  pub time : column row 5 ≡ or_null x.row.time

-- the row has all its columns, and flags in their range
abbrev pub IsWhole : SqlRow → Type 0
IsWhole row = (5 < length row) × ((flags : ℕ) → column row 3 ≡ Int (pos flags) → flags < 2 ^ 8)

-- rows under ids that rise from the last one on are put back into lanes
abbrev pub Restores : ℕ → List SqlRow → EventBuffer → EventBuffer → Type 0
Restores last [] a b = b ≡ a
Restores last (r ∷ rs) a b =
    (id : ℕ) × (x : LaneRow) × ShowsQueued r id x × FitsLane x × (last < id) × (fits_behind a id x ≡ true) × Restores id rs (with_old_row a id x) b

-- the rows of `queue` stand behind those of the lanes
pub record PutBack (rows : List SqlRow) (a b : EventBuffer) : Type 0 where
  pub queued : List Queued
  pub queue_is : IsPermutation (map queued_row queued) rows
  pub rise : IsAscending (λ x y. x.id < y.id) queued
  pub up_to_last : AllByRecursion (λ x. x.id ≤ a.last_id) queued
  pub low : AllByRecursion (λ x. x.lane < LANES) queued
  pub lanes : (k : ℕ) → k < LANES → lane_at b k ≡ record (lane_at a k) { rows = in_lane k queued }
  pub overflow : b.overflow ≡ a.overflow
  pub last_is : b.last_id ≡ a.last_id

-- the lanes begin without rows, with these figures, and take these rows; the last id used is the one noted if they say so
pub record IsPutBack (figures : List Figures) (rows : List SqlRow) (noted : ℕ) (s : EventBuffer) (is_noted : Bool) : Type 0 where
  pub last : ℕ
  pub bare : EventBuffer
  pub begun : IsBegun bare figures last
  pub restored : Restores 0 rows bare s
  pub same : IsTrue is_noted → noted ≡ last
