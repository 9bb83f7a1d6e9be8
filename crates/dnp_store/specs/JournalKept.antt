-- Definition: a journal, whose rows stand in a database, and whose count and last id stand in memory too.
use Rattle.std.specs.Prelude.{◌≡◌, ◌≤◌, ℕ, Bool, false, IsTrue, length, refl}
use Rattle.std.specs.Coded.{Coded, code_by, coded×, coded_bool, coded_ℕ}
use Rattle.dnp_objects.specs.declared.limits.TheConstants.{MAX_ID}
use Rattle.dnp_eventbuf.specs.Archive.{Archive}
use Rattle.sqlite_trees.specs.declared.store.Store.{Ghosts}
use Rattle.sqlite.specs.State.{State, HasCleanDisk}
use Rattle.sqlite.specs.Held.{Held, held_code, state}
use Rattle.dnp_store.specs.Commits.{LeavesAs, LeavesOneOf, StandsAs}
use Rattle.dnp_store.specs.JournalTables.{HoldsArchive, IsJournal, archive_in}

-- a journal: its connection, the last id used, how many rows it holds, and whether it has answered Device
pub record JournalValue (S : Type 0) : Type 0 where
  pub conn : Held S
  pub last_id : ℕ
  pub count : ℕ
  pub stopped : Bool
  -- its tables were the database's first as the journal began, and the others leave them alone
  pub owned : Bool

abbrev pub kept_code : {S : Type 0} → Coded S → Coded (JournalValue S)
kept_code {S} s =
    code_by (Held S × (ℕ × (ℕ × (Bool × Bool)))) (coded× (held_code s) (coded× coded_ℕ (coded× coded_ℕ (coded× coded_bool coded_bool))))
    (λ k. (k.conn, (k.last_id, (k.count, (k.stopped, k.owned)))))
    (λ p. record { conn = p.0; last_id = p.1.0; count = p.1.1.0; stopped = p.1.1.1.0; owned = p.1.1.1.1 }) (λ _. refl)

-- the connection serves, and the last commit holds this archive
abbrev pub JournalStands : State → Archive → Type 0
JournalStands = StandsAs IsJournal

-- what the last commit holds
abbrev pub archive_of : {S : Type 0} → Ghosts S → Held S → ℕ → Archive
archive_of g conn last = archive_in (state g conn).committed.trees last

abbrev pub held_archive : {S : Type 0} → Ghosts S → JournalValue S → Archive
held_archive g j = archive_of g j.conn j.last_id

-- what is so of a journal at all times
pub record JournalInvariant {S : Type 0} (g : Ghosts S) (conn : Held S) (last count : ℕ) (stopped owned : Bool) : Type 0 where
  pub idle : conn.in_transaction ≡ false
  pub last_in_range : last ≤ MAX_ID
  pub count_in_range : count ≤ last
  pub stands : stopped ≡ false → IsTrue owned → HasCleanDisk (state g conn) → JournalStands (state g conn) (archive_of g conn last)
  pub count_is : stopped ≡ false → IsTrue owned → HasCleanDisk (state g conn) → count ≡ length (archive_of g conn last).rows

-- so far the disk has given back what was written, nobody else has written, the journal has not answered Device, and the
-- journal's own tables come first in the database
abbrev pub IsHonestJournal : {S : Type 0} → Ghosts S → JournalValue S → Type 0
IsHonestJournal g j = HasCleanDisk (state g j.conn) × (j.stopped ≡ false) × IsTrue j.owned

-- each database that a crash may leave holds the one archive or the other
abbrev pub LeavesEitherJournal : State → Archive → Archive → Type 0
LeavesEitherJournal = LeavesOneOf HoldsArchive

-- each database that a crash may leave holds this archive
abbrev pub LeavesJournal : State → Archive → Type 0
LeavesJournal = LeavesAs HoldsArchive
