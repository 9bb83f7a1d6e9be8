-- Words of private steps: a queue's database while the tables for the second centre are made.
use Rattle.std.specs.Prelude.{◌≡◌, ◌||◌, Bool, IsTrue, List, [], ◌∷◌, codes}
use Rattle.sqlite.specs.Schema.{Schema}
use Rattle.sqlite_catalog.specs.Change.{is_used}
use Rattle.sqlite.specs.State.{State}
use Rattle.sqlite.specs.Term.{Term}
use Rattle.sqlite.specs.Effect.{Database}
use Rattle.dnp_eventbuf.specs.EventBuffer.{EventBuffer}
use Rattle.dnp_store.specs.Tables.{no_schema, only, schema_of}
use Rattle.dnp_store.specs.QueueTables.{Figures, HoldsBuffer, IsQueue, figures_rows, lanes_with, queue_with}
use Rattle.dnp_store.specs.PairTables.{Checks, HoldsPair, Sides, pair_schema, queue_b_with}
use Rattle.dnp_store.specs.Schemas.{checks_of_lanes_b, checks_of_queue_b}

-- a table, an index or a view has the name of one of those tables
abbrev pub has_second_name : Schema → Bool
has_second_name schema = is_used schema (codes "queue_b") || is_used schema (codes "lanes_b")

-- the CHECKs of a queue for one centre, and those of the tables for the second
abbrev pub with_second : List Term → List Term → List Term → Checks
with_second f q l = record { form = f; queue = q; lanes = l; queue_b = checks_of_queue_b; lanes_b = checks_of_lanes_b; more = no_schema }

-- beside the lanes for one centre stands `queue_b`, which is empty
pub record HasQueueB (f q l : List Term) (s : EventBuffer) (db : Database) : Type 0 where
  pub schema : db.schema ≡ schema_of f (queue_with q) (only (lanes_with l ∷ queue_b_with checks_of_queue_b ∷ []))
  pub holds : HoldsBuffer db.trees s
  pub empty : db.trees 4 ≡ []

-- and `lanes_b`, with so many lanes
pub record HasSecond (f q l : List Term) (s : EventBuffer) (fs : List Figures) (db : Database) : Type 0 where
  pub schema : db.schema ≡ pair_schema (with_second f q l)
  pub holds : HoldsBuffer db.trees s
  pub empty : db.trees 4 ≡ []
  pub filled : db.trees 5 ≡ figures_rows 0 fs

-- and the form has its new number
pub record IsSecond (f q l : List Term) (sides : Sides) (db : Database) : Type 0 where
  pub schema : db.schema ≡ pair_schema (with_second f q l)
  pub holds : HoldsPair db.trees sides

-- the connection serves, and its database is that of a queue for one centre, and holds these lanes
pub record Opens (s : State) (buffer : EventBuffer) : Type 0 where
  pub is_open : IsTrue s.is_open
  pub holds : IsQueue s.committed buffer
