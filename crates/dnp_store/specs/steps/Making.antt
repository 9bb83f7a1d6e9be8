-- Words of private steps: a database while its tables are made, and a queue's while its lanes are.
use Rattle.std.specs.Prelude.{◌≡◌, ℕ, false, List, [], ◌∷◌, Ok}
use Rattle.sqlite_trees.specs.declared.store.Store.{Ghosts}
use Rattle.sqlite.specs.Held.{Held, state}
use Rattle.sqlite.specs.State.{Executes}
use Rattle.sqlite.specs.Term.{Term}
use Rattle.sqlite.specs.Effect.{Database}
use Rattle.dnp_store.specs.Added.{Statement}
use Rattle.dnp_store.specs.QueueTables.{queue_schema, Figures, figures_rows}
use Rattle.dnp_store.specs.declared.store_kind.StoreKind.TheVariants.{Queue}
use Rattle.dnp_store.specs.Schemas.{checks_of_form, checks_of_lanes, checks_of_rows}
use Rattle.dnp_store.specs.steps.Stores.{IsFresh}

-- a statement without parameters
abbrev pub bare : List ℕ → Statement
bare text = (text, [])

-- the texts ran, one after the other
abbrev pub ExecuteAll : {S : Type 0} → Ghosts S → List (List ℕ) → Held S → Held S → Type 0
ExecuteAll g [] old new = old ≡ new
ExecuteAll {S} g (sql ∷ more) old new = (mid : Held S) × (count : ℕ) × Executes sql [] (state g old) (state g mid) (Ok count) × ExecuteAll g more mid new

abbrev pub fresh : ℕ → Figures
fresh capacity = record { capacity = capacity; lost = 0; raised = false }

-- the form is numbered, and so many lanes stand in their table
pub record HasLanes (db : Database) (fs : List Figures) : Type 0 where
  pub form : List Term
  pub queue : List Term
  pub lanes : List Term
  pub form_by : form ≡ checks_of_form
  pub queue_by : queue ≡ checks_of_rows Queue
  pub lanes_by : lanes ≡ checks_of_lanes
  pub schema : db.schema ≡ queue_schema form queue lanes
  pub holds : IsFresh db.trees
  pub filled : db.trees 3 ≡ figures_rows 0 fs
