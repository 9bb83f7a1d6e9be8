-- Definition: a queue, whose rows stand in memory and in a database.
use Rattle.std.specs.Prelude.{◌≡◌, Bool, false, IsTrue, refl}
use Rattle.std.specs.Coded.{Coded, code_by, coded×, coded_bool}
use Rattle.dnp_eventbuf.specs.Codes.{plain_code}
use Rattle.dnp_eventbuf.specs.Sound.{IsSoundBuffer}
use Rattle.dnp_eventbuf.specs.EventBuffer.{EventBuffer}
use Rattle.sqlite_trees.specs.declared.store.Store.{Ghosts}
use Rattle.sqlite.specs.State.{State, HasCleanDisk}
use Rattle.sqlite.specs.Held.{Held, held_code, state}
use Rattle.dnp_store.specs.Commits.{LeavesAs, LeavesOneOf, StandsAs}
use Rattle.dnp_store.specs.PairTables.{HoldsPair, IsPair, Sides}

-- a queue: its connection, what it holds for each of the two centres, and whether it has answered Device
pub record QueueValue (S : Type 0) : Type 0 where
  pub conn : Held S
  pub sides : Sides
  pub stopped : Bool
  -- its tables were the database's first as the queue began, and the others leave them alone
  pub owned : Bool

abbrev pub kept_code : {S : Type 0} → Coded S → Coded (QueueValue S)
kept_code {S} s =
    code_by (Held S × (EventBuffer × (EventBuffer × (Bool × Bool))))
    (coded× (held_code s) (coded× plain_code (coded× plain_code (coded× coded_bool coded_bool))))
    (λ k. (k.conn, (k.sides.first, (k.sides.second, (k.stopped, k.owned)))))
    (λ p. record { conn = p.0; sides = record { first = p.1.0; second = p.1.1.0 }; stopped = p.1.1.1.0; owned = p.1.1.1.1 }) (λ _. refl)

-- the connection serves, and the last commit holds these lanes
abbrev pub QueueStands : State → Sides → Type 0
QueueStands = StandsAs IsPair

-- the lanes of each side are as lanes are at all times
abbrev pub AreSound : Sides → Type 0
AreSound sides = IsSoundBuffer sides.first × IsSoundBuffer sides.second

-- what is so of a queue at all times
pub record QueueInvariant {S : Type 0} (g : Ghosts S) (conn : Held S) (sides : Sides) (stopped owned : Bool) : Type 0 where
  pub idle : conn.in_transaction ≡ false
  pub first : IsSoundBuffer sides.first
  pub second : IsSoundBuffer sides.second
  pub stands : stopped ≡ false → IsTrue owned → HasCleanDisk (state g conn) → QueueStands (state g conn) sides

-- so far the disk has given back what was written, nobody else has written, the queue has not answered Device, and the
-- queue's own tables come first in the database
abbrev pub IsHonestQueue : {S : Type 0} → Ghosts S → QueueValue S → Type 0
IsHonestQueue g q = HasCleanDisk (state g q.conn) × (q.stopped ≡ false) × IsTrue q.owned

-- each database that a crash may leave holds the one lanes or the other
abbrev pub LeavesEitherQueue : State → Sides → Sides → Type 0
LeavesEitherQueue = LeavesOneOf HoldsPair

-- each database that a crash may leave holds these lanes
abbrev pub LeavesQueue : State → Sides → Type 0
LeavesQueue = LeavesAs HoldsPair
