-- Definition: a book of controls, whose entries stand in memory and in a database.
use Rattle.std.specs.Prelude.{◌≡◌, ◌≤◌, ℕ, List, Bool, false, IsTrue, All, length, take, refl}
use Rattle.std.specs.Coded.{Coded, code_by, coded×, coded_bool, coded_ℕ}
use Rattle.dnp_objects.specs.declared.limits.TheConstants.{MAX_ID}
use Rattle.dnp_controls.specs.contracts.plain_book.PlainBook as plain
use Rattle.dnp_controls.specs.declared.book.Entry.{Entry}
use Rattle.dnp_controls.specs.Book.{Ledger, IsSoundLedger, is_pending}
use Rattle.sqlite_trees.specs.declared.store.Store.{Ghosts}
use Rattle.sqlite.specs.State.{State, HasCleanDisk}
use Rattle.sqlite.specs.Held.{Held, held_code, state}
use Rattle.dnp_store.specs.Commits.{LeavesAs, LeavesOneOf, StandsAs}
use Rattle.dnp_store.specs.BookTables.{HoldsBook, IsBook}

-- a book: its connection, what it holds, and whether it has answered Device
pub record BookValue (S : Type 0) : Type 0 where
  pub conn : Held S
  pub ledger : Ledger
  pub stopped : Bool
  -- its tables were the database's first as the book began, and the others leave them alone
  pub owned : Bool

abbrev pub kept_code : {S : Type 0} → Coded S → Coded (BookValue S)
kept_code {S} s =
    code_by (Held S × (List Entry × (ℕ × (Bool × Bool)))) (coded× (held_code s) (coded× plain.the_row.coded (coded× coded_ℕ (coded× coded_bool coded_bool))))
    (λ k. (k.conn, (k.ledger.entries, (k.ledger.last_id, (k.stopped, k.owned)))))
    (λ p. record { conn = p.0; ledger = record { entries = p.1.0; last_id = p.1.1.0 }; stopped = p.1.1.1.0; owned = p.1.1.1.1 }) (λ _. refl)

-- the connection serves, and the last commit holds these entries
abbrev pub BookStands : State → Ledger → Type 0
BookStands = StandsAs IsBook

-- no entry before this place is pending
pub record IsPast (entries : List Entry) (first : ℕ) : Type 0 where
  pub within : first ≤ length entries
  pub none : All (λ entry. is_pending entry.state ≡ false) (take first entries)

-- what is so of a book at all times
pub record BookInvariant {S : Type 0} (g : Ghosts S) (conn : Held S) (ledger : Ledger) (first : ℕ) (stopped owned : Bool) : Type 0 where
  pub idle : conn.in_transaction ≡ false
  pub sound : IsSoundLedger ledger
  pub past : IsPast ledger.entries first
  pub last_in_range : ledger.last_id ≤ MAX_ID
  pub stands : stopped ≡ false → IsTrue owned → HasCleanDisk (state g conn) → BookStands (state g conn) ledger

-- so far the disk has given back what was written, nobody else has written, the book has not answered Device, and the
-- book's own tables come first in the database
abbrev pub IsHonestBook : {S : Type 0} → Ghosts S → BookValue S → Type 0
IsHonestBook g b = HasCleanDisk (state g b.conn) × (b.stopped ≡ false) × IsTrue b.owned

-- each database that a crash may leave holds the one ledger or the other
abbrev pub LeavesEitherBook : State → Ledger → Ledger → Type 0
LeavesEitherBook = LeavesOneOf HoldsBook

-- each database that a crash may leave holds this ledger
abbrev pub LeavesBook : State → Ledger → Type 0
LeavesBook = LeavesAs HoldsBook
