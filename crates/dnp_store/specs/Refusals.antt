-- Definition: when a store is lost, so that it answers Device and stops.
use Rattle.std.specs.Prelude.{◌≡◌, ◌⊎◌, ⊤, [], ◌∷◌, ◌++◌, codes, false, List, ℕ, IsTrue, Err}
use Rattle.sqlite_trees.specs.declared.store.Store.{Ghosts}
use Rattle.sqlite.specs.Held.{Held, state}
use Rattle.sqlite.specs.Order.{Row}
use Rattle.sqlite.specs.Effect.{Database}
use Rattle.sqlite.specs.State.{State, ExecutesInside, FailsToQuery, Shown, Survives}
use Rattle.sqlite.specs.Steps.{FailsToCommit}
use Rattle.sqlite.specs.declared.error.Error.{Error}
use Rattle.dnp_store.specs.declared.store_kind.StoreKind.{StoreKind}
use Rattle.dnp_store.specs.declared.store_kind.StoreKind.TheVariants.{Journal}
use Rattle.dnp_store.specs.declared.fault.Unread.{Unread}
use Rattle.dnp_store.specs.declared.fault.Unread.TheVariants.{Form, Memory, Failed}
use Rattle.dnp_store.specs.Added.{MakeAll, Makes, Statement}
use Rattle.dnp_store.specs.Faults.{RefusesNothing, is_memory, is_out_of_memory, is_taken}
use Rattle.dnp_store.specs.steps.JournalShown.{HasNoEvent}
use Rattle.dnp_store.specs.steps.Shown.{ShowsForm}
use Rattle.dnp_store.specs.Texts.{IsOwn}

-- a statement of the store's in a transaction, the commit of one, or a query of the store's was refused with this error
abbrev pub Refuses : StoreKind → State → State → Error → Type 0
Refuses kind old new e =
    (IsTrue old.in_transaction × (((sql : List ℕ) × (params : Row) × IsOwn kind sql × ExecutesInside 0 sql params old new (Err e)) ⊎ FailsToCommit old new e))
    ⊎ ((sql : List ℕ) × (params : Row) × IsOwn kind sql × FailsToQuery sql params old new e)

-- so it was between these two moments of a connection
pub record IsRefused {S : Type 0} (g : Ghosts S) (kind : StoreKind) (old new : Held S) (error : Error) : Type 0 where
  pub before : Held S
  pub after : Held S
  pub early : Survives (state g old) (state g before) (λ _. ⊥)
  pub refused : Refuses kind (state g before) (state g after) error
  pub late : Survives (state g after) (state g new) (λ _. ⊥)

-- The database refused a call otherwise than for memory; or it did for memory, and then refused a text that asks for nothing
-- too. So one request for memory that is refused loses no store.
pub record IsLost {S : Type 0} (g : Ghosts S) (kind : StoreKind) (old new : Held S) : Type 0 where
  pub between : Held S
  pub error : Error
  pub refused : IsRefused g kind old between error
  pub lost : (is_memory error ≡ false) ⊎ RefusesNothing (state g between) (state g new)

-- ---- where tables are made

-- one of these statements was refused with this error, after those before it ran, each once and in order
abbrev pub RefusesOne : {S : Type 0} → Ghosts S → List Statement → Database → State → State → Error → Type 0
RefusesOne g [] db old new e = ⊥
RefusesOne g (it ∷ more) db old new e =
    ((old.now ≡ db) × IsTrue old.in_transaction × ExecutesInside 0 it.0 it.1 old new (Err e))
    ⊎ ((between : Database) × Makes g it db between × RefusesOne g more between old new e)

-- a text that asks for nothing
abbrev pub asking : List Statement
asking = ([], []) ∷ []

-- so was one of them, or a text after them that asks for nothing; or all of them ran, and their commit was refused
abbrev pub RefusesToMake : {S : Type 0} → Ghosts S → List Statement → Database → State → State → Error → Type 0
RefusesToMake g its db old new e =
    RefusesOne g (its ++ asking) db old new e ⊎ (MakeAll g its db old.now × IsTrue old.in_transaction × FailsToCommit old new e)

-- a connection was refused so between these two moments, by the database that it began with
pub record IsStopped {S : Type 0} (g : Ghosts S) (Refused : Database → State → State → Error → Type 0) (old new : Held S) (error : Error) : Type 0 where
  pub before : Held S
  pub after : Held S
  pub early : Survives (state g old) (state g before) (λ _. ⊥)
  pub refused : Refused (state g old).now (state g before) (state g after) error
  pub late : Survives (state g after) (state g new) (λ _. ⊥)

-- the tables that these statements make were not made
abbrev pub IsUnmade : {S : Type 0} → Ghosts S → List Statement → Held S → Held S → Error → Type 0
IsUnmade g its = IsStopped g (RefusesToMake g its)

-- so it was otherwise than for memory and for a name that is taken; or it was for memory, and a text that asks for nothing was
-- refused too
pub record LosesMaking {S : Type 0} (g : Ghosts S) (its : List Statement) (old new : Held S) : Type 0 where
  pub between : Held S
  pub error : Error
  pub unmade : IsUnmade g its old between error
  pub free : is_taken error ≡ false
  pub lost : (is_memory error ≡ false) ⊎ RefusesNothing (state g between) (state g new)

-- so it was, since the name of a table is taken
pub record IsTaken {S : Type 0} (g : Ghosts S) (its : List Statement) (old new : Held S) : Type 0 where
  pub between : Held S
  pub error : Error
  pub unmade : IsUnmade g its old between error
  pub taken : IsTrue (is_taken error)
  pub late : Survives (state g between) (state g new) (λ _. ⊥)

-- ---- where a store was read

-- why a journal's rows were not read between these two moments
abbrev pub IsUnread : {S : Type 0} → Ghosts S → Held S → Held S → Unread → Type 0
IsUnread g old new Form =
    (sql : List ℕ) × (params : Row) × (rows : List Row) × IsOwn Journal sql × Shown sql params (state g old) (state g new) rows × HasNoEvent rows
IsUnread g old new Memory = ⊤
IsUnread g old new (Failed error) = IsRefused g Journal old new error

-- a reading of them failed otherwise than for memory, or the connection refuses a text that asks for nothing too
pub record LosesReading {S : Type 0} (g : Ghosts S) (old new : Held S) : Type 0 where
  pub between : Held S
  pub cause : Unread
  pub unread : IsUnread g old between cause
  pub lost : (is_out_of_memory cause ≡ false) ⊎ RefusesNothing (state g between) (state g new)

-- of this database, the query for the number of the form shows one row, with this number
pub record IsNumbered {S : Type 0} (g : Ghosts S) (n : ℕ) (db : Database) : Type 0 where
  pub old : Held S
  pub new : Held S
  pub rows : List Row
  pub of : (state g old).now ≡ db
  pub shown : Shown (codes "SELECT rowid, number FROM form ORDER BY rowid") [] (state g old) (state g new) rows
  pub one : ShowsForm rows n
