-- What a book's connection leaves.
use Rattle.std.proofs.Common.{inl, inr, IsTrue, ◌≡◌, ◌⊎◌, false, Ok, Err, Result, refl, subst}
use Rattle.std.specs.Prelude.{OnOk}
use Rattle.sqlite.specs.declared.error.Error.{Error}
use Rattle.sqlite.specs.Effect.{Database}
use Rattle.sqlite.specs.State.{State, HasCleanDisk}
use Rattle.sqlite_trees.specs.declared.store.Store.{Ghosts}
use Rattle.sqlite.specs.Held.{state}
use Rattle.dnp_controls.specs.declared.book.BookFault.{BookFault}
use Rattle.dnp_controls.specs.declared.book.BookFault.TheVariants as fault
use Rattle.dnp_controls.specs.Book.{Ledger, IsSoundLedger}
use Rattle.dnp_controls.specs.Calls.{IsBookCall}
use Rattle.dnp_store.specs.BookTables.{HoldsBook, IsBook}
use Rattle.dnp_store.specs.BookKept.{BookValue, IsHonestBook, BookStands}
use Rattle.dnp_store.proofs.Calling.{call_refused, call_stopped}

pub stands_if : (new : State) (book : Ledger) (r : Result (Unit {0}) Error) → OnOk r (IsTrue new.is_open × IsBook new.committed book)
    → OnOk r (BookStands new book)
stands_if new book (Ok _) h = record { is_open = h.0; holds = h.1 }
stands_if new book (Err _) h = tt

-- what is so of a book's database is so of its trees
pub holding : (db : Database) (book : Ledger) → IsBook db book → HoldsBook db.trees book
holding db book is = is.holds

pub not_device : (f : BookFault) → (f ≡ fault.NoControl) ⊎ (f ≡ fault.NotPending) → f ≡ fault.Device → ⊥
not_device f (inl is) told = absurd cc
not_device f (inr is) told = absurd cc

-- what is so of a book is so as it is seen
module _ {S : Type 0} (g : Ghosts S) (inside seen : BookValue S) (is : inside ≡ seen) where
  pub seen_stands : (inside.stopped ≡ false → IsTrue inside.owned → HasCleanDisk (state g inside.conn) → BookStands (state g inside.conn) inside.ledger)
      → seen.stopped ≡ false → IsTrue seen.owned → HasCleanDisk (state g seen.conn) → BookStands (state g seen.conn) seen.ledger
  seen_stands = subst (λ (k : BookValue S). k.stopped ≡ false → IsTrue k.owned → HasCleanDisk (state g k.conn) → BookStands (state g k.conn) k.ledger) is

  pub seen_stopped : {Answer : Type 0} → IsSoundLedger inside.ledger → IsTrue inside.stopped
      → IsBookCall {Answer = Answer} (IsHonestBook g) (λ b. b.stopped) (λ b. b.ledger) seen seen (Err fault.Device)
  seen_stopped sound stopped =
      call_stopped seen (λ h. h.1) (λ h. subst (λ (k : BookValue S). IsSoundLedger k.ledger) is sound) refl tt
      (subst (λ (k : BookValue S). IsTrue k.stopped) is stopped)

  pub seen_refused : {Answer : Type 0} (e : BookFault) → (e ≡ fault.Device → ⊥) → IsSoundLedger inside.ledger → inside.stopped ≡ false
      → IsBookCall {Answer = Answer} (IsHonestBook g) (λ b. b.stopped) (λ b. b.ledger) seen seen (Err e)
  seen_refused e other sound serves =
      call_refused seen e other (subst (λ (k : BookValue S). k.stopped ≡ false) is serves) (λ h. subst (λ (k : BookValue S). IsSoundLedger k.ledger) is sound)
      refl tt
