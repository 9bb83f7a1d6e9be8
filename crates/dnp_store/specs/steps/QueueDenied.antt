-- Words of private steps: why a queue's tables could not be read.
use Rattle.std.specs.Prelude.{◌≡◌, ◌⊎◌, ℕ, ◌-◌, ◌<◌, ◌≤◌, pos, IsTrue, List, [], length, slice_index_or}
use Rattle.sqlite.specs.declared.types.Value.TheVariants.{Int}
use Rattle.sqlite.specs.Order.{Row as SqlRow, column}
use Rattle.sqlite.specs.Tree.{Trees}
use Rattle.sqlite.specs.Effect.{IsDatabase}
use Rattle.sqlite.specs.State.{State}
use Rattle.dnp_objects.specs.declared.limits.TheConstants.{MAX_ID}
use Rattle.dnp_eventbuf.specs.EventBuffer.{EventBuffer}
use Rattle.dnp_store.specs.declared.fault.Unread.{Unread}
use Rattle.dnp_store.specs.declared.queue_side.QueueSide.{QueueSide}
use Rattle.dnp_store.specs.declared.queue_side.QueueSide.TheVariants.{First}
use Rattle.dnp_store.specs.Faults.{is_wrong}
use Rattle.dnp_store.specs.QueueTables.{Figures}
use Rattle.dnp_store.specs.PairTables.{Checks, HoldsPair, Sides, pair_schema, rows_name}
use Rattle.dnp_store.specs.QueueOpens.{BothMayStand, HoldsOne, HoldsTwo, MayStand, NotesInRange}
use Rattle.dnp_store.specs.steps.Pairs.{HasSide, HoldsAmong}
use Rattle.dnp_store.specs.steps.Shown.{IsBegun, IsMost, IsWhole, Restores, ShowIds}

-- the connection was open, and a database that has the tables of this side doesn't hold this
abbrev pub DeniesSide : QueueSide → State → Unread → (Trees → Type 0) → Type 0
DeniesSide side old unread P =
    IsTrue (is_wrong unread) → IsTrue old.is_open × (IsDatabase old.now → HasSide side old.now.schema → P old.now.trees → ⊥)

-- a database that has the tables of both doesn't
abbrev pub DeniesPair : State → Unread → (Trees → Type 0) → Type 0
DeniesPair old unread P =
    IsTrue (is_wrong unread) → IsTrue old.is_open × ((c : Checks) → IsDatabase old.now → old.now.schema ≡ pair_schema c → P old.now.trees → ⊥)

-- the database is no queue's that holds lanes as they may be
abbrev pub DeniesQueue : State → Unread → Type 0
DeniesQueue old unread =
    IsTrue (is_wrong unread) → IsTrue old.is_open × (IsDatabase old.now → HoldsTwo old.now ⊎ HoldsOne old.now → ⊥)

-- the tables of this side hold lanes as they may be
pub record SideStands (side : QueueSide) (db : Trees) : Type 0 where
  pub counts : List SqlRow
  pub lanes : EventBuffer
  pub may : MayStand lanes
  pub holds : HoldsAmong side db counts lanes

-- and these rows note no greater id for it than there may be
pub record SideStandsBy (side : QueueSide) (rows : List SqlRow) (db : Trees) : Type 0 where
  pub counts : List SqlRow
  pub lanes : EventBuffer
  pub may : MayStand lanes
  pub holds : HoldsAmong side db counts lanes
  pub noted : IsMost (rows_name side) rows MAX_ID

-- the tables of a queue for one centre hold lanes as they may be, whatever is counted, if it is no greater id than there may be
pub record OneStands (db : Trees) : Type 0 where
  pub counts : List SqlRow
  pub lanes : EventBuffer
  pub may : MayStand lanes
  pub holds : HoldsAmong First db counts lanes
  pub noted : NotesInRange (db 2)

-- those of a queue for two do
pub record TwoStand (db : Trees) : Type 0 where
  pub sides : Sides
  pub may : BothMayStand sides
  pub holds : HoldsPair db sides

-- Each row is whole, and the id in the last one is the greatest and in range. Together they can be put back into lanes with these
-- figures, whose last id used is no less.
pub record CanStand (figures : List Figures) (rows : List SqlRow) : Type 0 where
  pub in_range : ShowIds rows MAX_ID
  pub topped : (last : ℕ) → ((n : ℕ) → column (slice_index_or rows (length rows - 1) []) 0 ≡ Int (pos n) → n ≤ last) → ShowIds rows last
  pub whole : (k : ℕ) → k < length rows → IsWhole (slice_index_or rows k [])
  pub put : (a : EventBuffer) (last : ℕ) → ShowIds rows last → IsBegun a figures last → (b : EventBuffer) × Restores 0 rows a b
