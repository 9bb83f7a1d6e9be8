-- Definition: which lanes a queue may hold, and which databases hold such lanes.
use Rattle.std.specs.Prelude.{◌≡◌, ℕ, ◌<◌, ◌≤◌, ◌^◌, pos, All, List, codes}
use Rattle.std.specs.List.{AllByRecursion}
use Rattle.sqlite.specs.declared.types.Value.TheVariants.{Int, Text}
use Rattle.sqlite.specs.Order.{Row as SqlRow, column}
use Rattle.sqlite.specs.Effect.{Database}
use Rattle.dnp_objects.specs.declared.limits.TheConstants.{LANES, MAX_ID}
use Rattle.dnp_eventbuf.specs.declared.plain.TheConstants.{MAX_CAPACITY}
use Rattle.dnp_eventbuf.specs.Sound.{IsSoundBuffer}
use Rattle.dnp_eventbuf.specs.EventBuffer.{EventBuffer, lane_at}
use Rattle.dnp_store.specs.QueueTables.{IsUncounted}
use Rattle.dnp_store.specs.PairTables.{IsPair, Sides}

-- the lanes are as lanes are at all times, none takes more rows than a lane may, and each row's flags are an octet
pub record MayStand (s : EventBuffer) : Type 0 where
  pub sound : IsSoundBuffer s
  pub capacities : (number : ℕ) → number < LANES → (lane_at s number).capacity ≤ MAX_CAPACITY
  pub flags : (number : ℕ) → number < LANES → All (λ x. x.row.flags < 2 ^ 8) (lane_at s number).rows

-- so are those of both sides
abbrev pub BothMayStand : Sides → Type 0
BothMayStand sides = MayStand sides.first × MayStand sides.second

-- the database is a queue's for two centres, and holds such lanes
pub record HoldsTwo (db : Database) : Type 0 where
  pub sides : Sides
  pub may : BothMayStand sides
  pub is : IsPair db sides

-- none of these rows of `sqlite_sequence` notes a greater id for `queue` than there may be
abbrev pub NotesInRange : List SqlRow → Type 0
NotesInRange rows = AllByRecursion (λ row. column row 1 ≡ Text (codes "queue") → (n : ℕ) → column row 2 ≡ Int (pos n) → n ≤ MAX_ID) rows

-- it is a queue's for one centre, and holds such lanes, whatever is counted of their ids, if it is no greater one than there may be
pub record HoldsOne (db : Database) : Type 0 where
  pub lanes : EventBuffer
  pub may : MayStand lanes
  pub is : IsUncounted db lanes
  pub noted : NotesInRange (db.trees 2)
