-- Definition: the book of controls: the commands that are to be sent on, each with its target and its state. A
-- breaker must not operate twice, so an entry is spent before its command is sent, and spent once.
use Rattle.std.specs.Prelude.{◌≡◌, ℕ, ◌+◌, Bool, true, false, ◌&&◌, ◌==◌, nat_lt, if◌then◌else◌, IsTrue, List, [], ◌∷◌, ◌++◌, map, filter, find, take, Option, All, AllPairs, ◌<◌, ◌≤◌}
use Rattle.std.specs.Option.{IsSomeAnd}
use Rattle.dnp_objects.specs.declared.command.Command.{Command}
use Rattle.dnp_controls.specs.declared.book.Entry.{Entry}
use Rattle.dnp_controls.specs.declared.book.State.{State}
use Rattle.dnp_controls.specs.declared.book.State.TheVariants.{Pending, Spent, Finished}

-- ---- the state of an entry

abbrev pub is_pending : State → Bool
is_pending Pending = true
is_pending Spent = false
is_pending (Finished status) = false

abbrev pub is_finished : State → Bool
is_finished Pending = false
is_finished Spent = false
is_finished (Finished status) = true

-- ---- what a book holds

pub record Ledger : Type 0 where
  -- its entries, in the order in which they were added
  pub entries : List Entry
  -- the last id used
  pub last_id : ℕ

abbrev pub empty_ledger : Ledger
empty_ledger = record { entries = []; last_id = 0 }

-- ids rise, from 1 on, and are at most the last one used
pub record IsSoundLedger (book : Ledger) : Type 0 where
  pub rising : AllPairs (λ x y. x.id < y.id) book.entries
  pub from_1 : All (λ x. 1 ≤ x.id) book.entries
  pub up_to_last : All (λ x. x.id ≤ book.last_id) book.entries

-- the ids are the numbers from this one on, one after another
abbrev pub AreNumberedFrom : ℕ → List Entry → Type 0
AreNumberedFrom first [] = Unit {0}
AreNumberedFrom first (entry ∷ entries) = (entry.id ≡ first) × AreNumberedFrom (first + 1) entries

-- ---- what is read of the entries

-- the entry of this id
abbrev pub entry_of : List Entry → ℕ → Option Entry
entry_of entries id = find (λ entry. entry.id == id) entries

-- there is an entry of this id, and its state passes the test
abbrev pub Has : List Entry → ℕ → (State → Bool) → Type 0
Has entries id test = IsSomeAnd (entry_of entries id) (λ entry. IsTrue (test entry.state))

-- the first pending entry for the target: the one of the least id
abbrev pub next_of : List Entry → ℕ → Option Entry
next_of entries target = find (λ entry. is_pending entry.state && entry.target == target) entries

-- the first entries whose ids are over a number, at most that many
abbrev pub rows_of : List Entry → ℕ → ℕ → List Entry
rows_of entries from most = take most (filter (λ entry. nat_lt from entry.id) entries)

-- ---- what calls make of them

-- a command for a target is put after the entries, pending under the next id
abbrev pub added : Ledger → ℕ → Command → Ledger
added book target command = record {
  entries = book.entries ++ record { id = book.last_id + 1; target = target; command = command; state = Pending } ∷ [];
  last_id = book.last_id + 1;
}

-- the entry of this id comes into a state
abbrev pub in_state : List Entry → ℕ → State → List Entry
in_state entries id state =
    map (λ entry. if entry.id == id
    then record { id = entry.id; target = entry.target; command = entry.command; state = state }
    else entry) entries

abbrev pub spent : Ledger → ℕ → Ledger
spent book id = record book { entries = in_state book.entries id Spent }

abbrev pub finished : Ledger → ℕ → ℕ → Ledger
finished book id status = record book { entries = in_state book.entries id (Finished status) }
