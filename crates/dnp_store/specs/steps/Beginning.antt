-- Words of private steps: how a store begins on a connection that it was lent.
use Rattle.std.specs.Prelude.{◌≡◌, ◌≢◌, ◌⊎◌, ◌↔◌, Bool, false, Ok, Err, IfErr, IfOk, IsOk, IsTrue, OnErr, OnOk, List, ℕ, Result}
use Rattle.sqlite_trees.specs.declared.store.Store.{Ghosts}
use Rattle.sqlite.specs.Effect.{Database}
use Rattle.sqlite.specs.Held.{Held, state}
use Rattle.sqlite.specs.State.{State, HasCleanDisk, Survives}
use Rattle.sqlite.specs.Term.{Term}
use Rattle.sqlite.specs.Tree.{Trees}
use Rattle.sqlite.specs.declared.error.Error.{Error}
use Rattle.dnp_eventbuf.specs.Sound.{IsSoundBuffer}
use Rattle.dnp_eventbuf.specs.EventBuffer.{EventBuffer, empty_buffer}
use Rattle.dnp_store.specs.declared.fault.Unread.{Unread}
use Rattle.dnp_store.specs.declared.open.OpenFault.{OpenFault}
use Rattle.dnp_store.specs.declared.open.OpenFault.TheVariants.{Device, OldForm, WrongForm}
use Rattle.dnp_store.specs.Added.{LeavesMade, LeavesSecond, MakeAll, Statement, making_queue, making_second}
use Rattle.dnp_store.specs.Faults.{RefusesNothing, is_memory, is_taken, is_wrong}
use Rattle.dnp_store.specs.QueueKept.{AreSound, QueueStands}
use Rattle.dnp_store.specs.PairTables.{HoldsPair, IsPair, Sides, migrated}
use Rattle.dnp_store.specs.QueueOpens.{HoldsOne, HoldsTwo}
use Rattle.dnp_store.specs.QueueTables.{IsQueue, IsUncounted, queue_schema}
use Rattle.dnp_store.specs.Refusals.{IsNumbered, IsTaken, LosesMaking}
use Rattle.dnp_store.specs.Schemas.{made_pair}
use Rattle.dnp_store.specs.Showing.{HasOne, HasSides}
use Rattle.dnp_store.specs.Tables.{no_schema}

-- ---- what answers where tables were to be made

-- they were not, for this error, and the fault tells why
pub record Tells {S : Type 0} (g : Ghosts S) (old new : Held S) (done : Result (Unit {0}) Error) (fault : OpenFault) : Type 0 where
  pub error : Error
  pub failed : done ≡ Err error
  pub lost : HasCleanDisk (state g new) → fault ≡ Device → (is_memory error ≡ false) ⊎ RefusesNothing (state g old) (state g new)
  pub taken : fault ≡ WrongForm → IsTrue (is_taken error)
  pub current : fault ≢ OldForm

-- where they were, nothing more happens; nothing is written in any case
pub record IsTold {S : Type 0} (g : Ghosts S) (old new : Held S) (done : Result (Unit {0}) Error) (result : Result (Unit {0}) OpenFault) : Type 0 where
  pub idle : new.in_transaction ≡ false
  pub ok : OnOk result (IsOk done × (new ≡ old))
  pub err : IfErr result (Tells g old new done)
  pub same : HasCleanDisk (state g new) → IsTrue (state g new).is_open
      → IsTrue (state g old).is_open × ((state g new).committed ≡ (state g old).committed)
  pub survives : Survives (state g old) (state g new) (λ _. ⊥)

-- the name of a table is told as taken where the database said so
abbrev pub TellsTaken : Result (Unit {0}) Error → Result (Unit {0}) OpenFault → Type 0
TellsTaken done result = IfErr result (λ fault. fault ≡ Device → (error : Error) → done ≡ Err error → is_taken error ≡ false)

-- ---- what answers where a store was read

-- what was read is handed on where the connection serves still; nothing is written in any case
pub record IsServed {S A : Type 0} (g : Ghosts S) (old new : Held S) (read : Result A Unread) (result : Result A OpenFault) : Type 0 where
  pub idle : new.in_transaction ≡ false
  pub handed : IfOk result (λ found. read ≡ Ok found)
  pub opened : HasCleanDisk (state g new) → OnOk result (IsTrue (state g new).is_open)
  pub current : IfErr result (λ fault. fault ≢ OldForm)
  pub wrong : result ≡ Err WrongForm → (unread : Unread) × (read ≡ Err unread) × IsTrue (is_wrong unread)
  pub same : HasCleanDisk (state g new) → IsTrue (state g new).is_open
      → IsTrue (state g old).is_open × ((state g new).committed ≡ (state g old).committed)
  pub survives : Survives (state g old) (state g new) (λ _. ⊥)

-- ---- how a store begins

-- Inside a transaction nothing is done, and the answer is WrongForm. After a refusal the last commit stands, and a crash
-- leaves what it left before, or what the call makes.
pub record Begins {S A : Type 0} (g : Ghosts S) (Makes : Trees → Type 0) (old new : Held S) (result : Result A OpenFault) : Type 0 where
  pub inside : IsTrue old.in_transaction → (result ≡ Err WrongForm) × (new ≡ old)
  pub kept : new.in_transaction ≡ old.in_transaction
  pub idle : OnOk result (new.in_transaction ≡ false)
  pub same : HasCleanDisk (state g new) → IsTrue (state g new).is_open → OnErr result ((state g new).committed ≡ (state g old).committed)
  pub survives : Survives (state g old) (state g new) Makes

-- it was found, and nothing is written; what was found is so of the last commit as it was and of the connection as it is
pub record IsFound {S A : Type 0} (g : Ghosts S) (Finds : Database → State → A → Type 0) (old new : Held S) (result : Result A OpenFault) : Type 0 where
  pub begins : Begins g (λ _. ⊥) old new result
  pub current : IfErr result (λ fault. fault ≢ OldForm)
  pub found : HasCleanDisk (state g new) → IfOk result (Finds (state g old).committed (state g new))

-- its tables are made by these statements, and the answer tells whether there were others
pub record IsMade {S A : Type 0} (g : Ghosts S) (its : List Statement) (Fresh : Trees → Type 0) (Made : State → Type 0) (owned : A → Bool)
    (old new : Held S) (result : Result A OpenFault) : Type 0 where
  pub begins : Begins g (LeavesMade g its Fresh (state g old).now) old new result
  pub added : HasCleanDisk (state g new) → OnOk result (MakeAll g its (state g old).now (state g new).committed)
  pub alone : IfOk result (λ found. IsTrue (owned found) ↔ ((state g old).now.schema ≡ no_schema))
  pub made : HasCleanDisk (state g new) → (state g old).now.schema ≡ no_schema → OnOk result (Made (state g new))
  pub device : HasCleanDisk (state g new) → result ≡ Err Device → LosesMaking g its old new
  pub taken : HasCleanDisk (state g new) → result ≡ Err WrongForm → IsTrue old.in_transaction ⊎ IsTaken g its old new
  pub current : IfErr result (λ fault. fault ≢ OldForm)

-- ---- the lanes of a queue that begins, for the first centre and for the second, and whether the database is its own

abbrev pub Found : Type 0
Found = EventBuffer × EventBuffer × Bool

abbrev pub sides_in : Found → Sides
sides_in found = record { first = found.0; second = found.1 }

abbrev pub empty_sides : List ℕ → List ℕ → Sides
empty_sides first second = record { first = empty_buffer first; second = empty_buffer second }

-- they were found
pub record AreFound {S : Type 0} (g : Ghosts S) (old new : Held S) (result : Result Found OpenFault) : Type 0 where
  pub begins : Begins g (λ _. ⊥) old new result
  pub found : HasCleanDisk (state g new) → IfOk result (λ found. IsTrue found.2 → IsPair (state g old).committed (sides_in found))
  pub stands : HasCleanDisk (state g new) → IfOk result (λ found. IsTrue found.2 → QueueStands (state g new) (sides_in found))
  pub owned : HasCleanDisk (state g new) → IfOk result (λ found. (sides : Sides) → IsPair (state g old).committed sides → IsTrue found.2)
  pub current : HasCleanDisk (state g new) → OnOk result (IsNumbered g 2 (state g old).committed)
  pub lanes : HasCleanDisk (state g new) → IfOk result (λ found. HasSides g (sides_in found) (state g old).committed)
  pub numbered : HasCleanDisk (state g new) → result ≡ Err OldForm → IsNumbered g 1 (state g old).committed
  pub old_form : HasCleanDisk (state g new) → result ≡ Err OldForm → (f q l : List Term) → (state g old).committed.schema ≡ queue_schema f q l
      → (buffer : EventBuffer) × IsUncounted (state g old).committed buffer
  pub not_old : HasCleanDisk (state g new) → result ≡ Err OldForm → (sides : Sides) → IsPair (state g old).committed sides → ⊥
  pub is_new : HasCleanDisk (state g new) → OnOk result ((buffer : EventBuffer) → IsQueue (state g old).committed buffer → ⊥)
  pub wrong : HasCleanDisk (state g new) → result ≡ Err WrongForm
      → IsTrue old.in_transaction ⊎ (HoldsTwo (state g old).committed ⊎ HoldsOne (state g old).committed → ⊥)

-- they were found, or made of those for one centre
pub record AreMigrated {S : Type 0} (g : Ghosts S) (capacities : List ℕ) (old new : Held S) (result : Result Found OpenFault) : Type 0 where
  pub begins : Begins g (LeavesSecond g (state g old).committed capacities) old new result
  pub added : HasCleanDisk (state g new) → OnOk result (((state g new).committed ≡ (state g old).committed)
      ⊎ MakeAll g (making_second capacities) (state g old).committed (state g new).committed)
  pub unwritten : (sides : Sides) → IsPair (state g old).committed sides → Survives (state g old) (state g new) (λ _. ⊥)
  pub current : IfErr result (λ fault. fault ≢ OldForm)
  pub stands : HasCleanDisk (state g new) → IfOk result (λ found. IsTrue found.2 → QueueStands (state g new) (sides_in found))
  pub made : HasCleanDisk (state g new) → IfOk result (λ found. IsTrue found.2 → (buffer : EventBuffer) → IsSoundBuffer buffer → IsQueue
      (state g old).committed buffer
      → sides_in found ≡ migrated buffer capacities)
  pub same : HasCleanDisk (state g new) → IfOk result (λ found. IsTrue found.2 → (sides : Sides) → AreSound sides → IsPair (state g old).committed sides
      → sides_in found ≡ sides)
  pub owned : HasCleanDisk (state g new) → IfOk result (λ found. (sides : Sides) → IsPair (state g old).committed sides → IsTrue found.2)
  pub owned_old : HasCleanDisk (state g new) → IfOk result (λ found. (buffer : EventBuffer) → IsQueue (state g old).committed buffer → IsTrue found.2)
  pub lanes : HasCleanDisk (state g new) → IfOk result (λ found. HasSides g (sides_in found) (state g old).committed
      ⊎ HasOne g capacities (sides_in found) (state g old).committed)
  pub wrong : HasCleanDisk (state g new) → result ≡ Err WrongForm
      → IsTrue old.in_transaction ⊎ (HoldsTwo (state g old).committed ⊎ HoldsOne (state g old).committed → ⊥)

-- they were made
pub record AreMade {S : Type 0} (g : Ghosts S) (first second : List ℕ) (old new : Held S) (result : Result Found OpenFault) : Type 0 where
  pub is : IsMade g (making_queue first second) (λ db. HoldsPair db (empty_sides first second)) (λ s. QueueStands s (empty_sides first second) × (s.committed.schema ≡ made_pair))
      (λ found. found.2)
      old new result
  pub empty : IfOk result (λ found. sides_in found ≡ empty_sides first second)
