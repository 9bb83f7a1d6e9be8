-- Definition: what calls make of a book of controls, one after another. A call that is refused changes nothing, so
-- only those that are granted are told here.
use Rattle.std.specs.Prelude.{◌≡◌, ℕ, ◌<◌, ◌≤◌, Bool, true, false, not, ◌==◌, List, [], ◌∷◌, Contains, All}
use Rattle.dnp_objects.specs.declared.limits.TheConstants.{MAX_ID}
use Rattle.dnp_objects.specs.declared.command.Command.{Command}
use Rattle.dnp_controls.specs.declared.book.Entry.{Entry}
use Rattle.dnp_controls.specs.Book.{Ledger, Has, is_pending, is_finished, added, spent, finished}

-- the calls that change a book
pub data Move : Type 0 where
  Add : (target : ℕ) (command : Command) → Move
  Spend : (id : ℕ) → Move
  Finish : (id status : ℕ) → Move

-- when a book grants the call
abbrev pub IsGranted : Ledger → Move → Type 0
IsGranted book (Add target command) = book.last_id < MAX_ID
IsGranted book (Spend id) = Has book.entries id is_pending
IsGranted book (Finish id status) = Has book.entries id (λ state. not (is_finished state))

-- what it makes of the book then
abbrev pub moved : Ledger → Move → Ledger
moved book (Add target command) = added book target command
moved book (Spend id) = spent book id
moved book (Finish id status) = finished book id status

-- each of the calls is granted, after those before it
abbrev pub AreGranted : Ledger → List Move → Type 0
AreGranted book [] = Unit {0}
AreGranted book (move ∷ moves) = IsGranted book move × AreGranted (moved book move) moves

-- what they make of the book
abbrev pub after : Ledger → List Move → Ledger
after book [] = book
after book (move ∷ moves) = after (moved book move) moves

-- the call spends this entry
abbrev pub is_spend_of : ℕ → Move → Bool
is_spend_of id (Add target command) = false
is_spend_of id (Spend other) = other == id
is_spend_of id (Finish other status) = false

-- of the pending entries for the target this is the one of the least id
pub record IsNext (entries : List Entry) (target : ℕ) (entry : Entry) : Type 0 where
  pub contained : Contains entries entry
  pub pending : is_pending entry.state ≡ true
  pub target_is : entry.target ≡ target
  pub least : All (λ other. is_pending other.state ≡ true → other.target ≡ target → entry.id ≤ other.id) entries

-- no pending entry is for the target
abbrev pub HasNoNext : List Entry → ℕ → Type 0
HasNoNext entries target = All (λ other. is_pending other.state ≡ true → other.target ≡ target → ⊥) entries
