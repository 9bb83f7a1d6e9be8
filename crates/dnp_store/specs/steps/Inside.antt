-- Words of private steps: what each step inside a transaction needs and leaves.
use Rattle.std.specs.Prelude.{◌≡◌, ◌⊎◌, false, Err, IfErr, IsOk, IsTrue, OnErr, OnOk, Result}
use Rattle.std.specs.Borrow.{MutBor}
use Rattle.sqlite_trees.specs.declared.store.Store.{Ghosts}
use Rattle.sqlite.specs.State.{HasCleanDisk, KeepsCommit, Survives}
use Rattle.sqlite.specs.Steps.{FailsToCommit}
use Rattle.sqlite.specs.declared.error.Error.{Error}
use Rattle.sqlite.specs.Held.{Held, state}

-- the connection that a transaction was lent is inside it
abbrev pub IsInside : {S : Type 0} → Ghosts S → MutBor (Held S) → Type 0
IsInside g conn = HasCleanDisk (state g conn.now) → IsTrue (state g conn.now).in_transaction

-- The transaction keeps the connection that it was lent. After Ok it goes on; nothing was committed, and a crash leaves
-- what it left before.
pub record IsStep {S A E : Type 0} (g : Ghosts S) (old new : MutBor (Held S)) (result : Result A E) : Type 0 where
  pub same_reference : new.ghost_name ≡ old.ghost_name
  pub inside : HasCleanDisk (state g new.now) → OnOk result (IsTrue (state g new.now).in_transaction)
  pub kept : HasCleanDisk (state g new.now) → KeepsCommit (state g old.now) (state g new.now)
  pub survives : Survives (state g old.now) (state g new.now) (λ _. ⊥)

-- A transaction ended: after Ok all was done and is committed. Else the last commit stays, for the error that what was to be done
-- answered, or that of the commit.
pub record IsEnded {S : Type 0} (g : Ghosts S) (old new : Held S) (done result : Result (Unit {0}) Error) : Type 0 where
  pub idle : new.in_transaction ≡ false
  pub ok : HasCleanDisk (state g new) → OnOk result (IsOk done × IsTrue (state g new).is_open × ((state g new).committed ≡ (state g old).now))
  pub err : HasCleanDisk (state g new) → IsTrue (state g new).is_open
      → OnErr result (IsTrue (state g old).is_open × ((state g new).committed ≡ (state g old).committed))
  pub refused : HasCleanDisk (state g new) → IfErr result (λ e. (done ≡ Err e) ⊎ (IsOk done × FailsToCommit (state g old) (state g new) e))
  pub survives : Survives (state g old) (state g new) (λ db. IsOk done × (db ≡ (state g old).now.trees))
