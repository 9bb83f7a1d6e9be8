-- Words of private steps: what an open found in the database of a queue.
use Rattle.std.specs.Prelude.{◌≡◌, ◌&&◌, ℕ, Bool, IsTrue, List}
use Rattle.sqlite_trees.specs.declared.store.Store.{Ghosts}
use Rattle.sqlite.specs.Term.{Term}
use Rattle.sqlite.specs.Effect.{Database, IsDatabase}
use Rattle.dnp_store.specs.declared.queue_opening.Stored.{Stored}
use Rattle.dnp_store.specs.declared.queue_opening.Stored.TheVariants.{One, Pair}
use Rattle.dnp_eventbuf.specs.EventBuffer.{EventBuffer}
use Rattle.dnp_store.specs.QueueTables.{IsQueue, IsUncounted, queue_schema}
use Rattle.dnp_store.specs.PairTables.{Checks, IsPair, Sides, pair_names, pair_schema}
use Rattle.dnp_store.specs.Showing.{HasLanes, HasSides}
use Rattle.dnp_store.specs.Tables.{AreBehind}
use Rattle.dnp_store.specs.declared.queue_side.QueueSide.TheVariants.{First}

-- it is what a database shows that has the tables of a queue, if its ids are counted as they should be; what is shown of one
-- centre's lanes is not shown by the database of a queue for two, and is what stands there whatever is counted
pub record ShowsOne (db : Database) (lanes : EventBuffer) (counted : Bool) : Type 0 where
  pub held : IsTrue counted → (f q l : List Term) → IsDatabase db → db.schema ≡ queue_schema f q l → IsQueue db lanes
  pub stands : (f q l : List Term) → IsDatabase db → db.schema ≡ queue_schema f q l → IsUncounted db lanes
  pub no_pair : IsDatabase db → (sides : Sides) → IsPair db sides → ⊥

abbrev pub IsShown : Database → Stored → Type 0
IsShown db (One lanes counted) = ShowsOne db lanes counted
IsShown db (Pair first second counted) =
    IsTrue counted → (c : Checks) → AreBehind pair_names c.more → IsDatabase db → db.schema ≡ pair_schema c
    → IsPair db (record { first = first; second = second })

-- and if the database holds lanes, their ids are counted as they should be
abbrev pub AreCounted : Database → Stored → Type 0
AreCounted db (One lanes counted) = IsDatabase db → (s : EventBuffer) → IsQueue db s → IsTrue counted
AreCounted db (Pair first second counted) =
    (IsDatabase db → (sides : Sides) → IsPair db sides → IsTrue counted) × (IsDatabase db → (s : EventBuffer) → IsQueue db s → ⊥)

-- it is what the database holds, if the tables of a queue are its own
pub record StoresOne (db : Database) (lanes : EventBuffer) (owned : Bool) : Type 0 where
  pub held : IsTrue owned → IsQueue db lanes
  pub stands : (f q l : List Term) → db.schema ≡ queue_schema f q l → IsUncounted db lanes
  pub no_pair : (sides : Sides) → IsPair db sides → ⊥

abbrev pub IsStored : Database → Stored → Type 0
IsStored db (One lanes owned) = StoresOne db lanes owned
IsStored db (Pair first second owned) = IsTrue owned → IsPair db (record { first = first; second = second })

-- the queries show it of the database
abbrev pub AreRead : {S : Type 0} → Ghosts S → Database → Stored → Type 0
AreRead g db (One lanes owned) = HasLanes g First lanes db
AreRead g db (Pair first second owned) = HasSides g (record { first = first; second = second }) db

-- and if the database holds lanes, it is their own
abbrev pub IsOwned : Database → Stored → Type 0
IsOwned db (One lanes owned) = (s : EventBuffer) → IsQueue db s → IsTrue owned
IsOwned db (Pair first second owned) = ((sides : Sides) → IsPair db sides → IsTrue owned) × ((s : EventBuffer) → IsQueue db s → ⊥)

-- the number of its form
abbrev pub number_of : Stored → ℕ
number_of (One lanes owned) = 1
number_of (Pair first second owned) = 2

-- what was shown is the queue's own, if its tables are
abbrev pub owned_by : Stored → Bool → Bool → Stored
owned_by (One lanes counted) one pair = One lanes (one && counted)
owned_by (Pair first second counted) one pair = Pair first second (pair && counted)
