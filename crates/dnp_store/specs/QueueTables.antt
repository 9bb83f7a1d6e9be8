-- Definition: the tables of a queue, and the lanes that they hold (an own form: IEEE Std 1815-2012 knows no stored
-- tables).
use Rattle.std.specs.Prelude.{◌≡◌, ℕ, zero, suc, ◌+◌, ◌<◌, ◌≤◌, ◌==◌, ℤ, pos, Bool, true, false, if◌then◌else◌, List, [], ◌∷◌, map, filter, length, codes, slice_index_or, Option, None}
use Rattle.std.specs.List.Sorted.{IsPermutation}
use Rattle.std.specs.List.{list_any, AllByRecursion}
use Rattle.sqlite.specs.declared.types.Value.TheVariants.{Null, Int}
use Rattle.sqlite.specs.Table.{Table}
use Rattle.sqlite.specs.Term.{Term}
use Rattle.sqlite.specs.Schema.{Schema}
use Rattle.sqlite.specs.Kind.TheVariants.{Integer}
use Rattle.sqlite.specs.Order.{Row as SqlRow}
use Rattle.sqlite.specs.Tree.{Trees, IsAscending}
use Rattle.sqlite.specs.Effect.{Database}
use Rattle.sqlite_schema.specs.declared.schema.Column.{Column}
use Rattle.dnp_objects.specs.declared.limits.TheConstants.{LANES}
use Rattle.dnp_objects.specs.declared.row.Kind.{Kind}
use Rattle.dnp_objects.specs.declared.row.Kind.TheVariants.{Binary, Counter, Analog}
use Rattle.dnp_eventbuf.specs.declared.numbered.Numbered.{Numbered}
use Rattle.dnp_eventbuf.specs.EventBuffer.{LaneState, EventBuffer, lane_at}
pub use Rattle.dnp_store.specs.declared.figures.Figures.{Figures}
use Rattle.dnp_store.specs.Tables.{only, or_null, column_of, table_of, schema_of, IsCounted}

-- ---- the tables

abbrev pub queue_columns : List Column
queue_columns =
    column_of (codes "id") Integer false ∷ column_of (codes "lane") Integer true ∷ column_of (codes "point") Integer true
    ∷ column_of (codes "flags") Integer true ∷ column_of (codes "value") Integer true ∷ column_of (codes "time") Integer false ∷ []

abbrev pub lanes_columns : List Column
lanes_columns =
    column_of (codes "lane") Integer false ∷ column_of (codes "cap") Integer true ∷ column_of (codes "lost") Integer true
    ∷ column_of (codes "raised") Integer true ∷ []

abbrev pub lanes_with : List Term → Table
lanes_with checks = table_of (codes "lanes") 3 lanes_columns true false checks

abbrev pub queue_with : List Term → Table
queue_with checks = table_of (codes "queue") 1 queue_columns true true checks

abbrev pub queue_schema : List Term → List Term → List Term → Schema
queue_schema form queue lanes = schema_of form (queue_with queue) (only (lanes_with lanes ∷ []))

-- ---- a row of `queue`: its id, its lane's number and an event, whose kind is the lane's

pub record Queued : Type 0 where
  pub id : ℕ
  pub lane : ℕ
  pub index : ℕ
  pub flags : ℕ
  pub value : ℤ
  pub time : Option ℕ
  -- it ends before its time, as a row from before that column would
  pub is_short : Bool

abbrev pub queued_cells : Queued → SqlRow
queued_cells x = Null ∷ Int (pos x.lane) ∷ Int (pos x.index) ∷ Int (pos x.flags) ∷ Int x.value ∷ (if x.is_short then [] else or_null x.time ∷ [])

-- it stands under its id
abbrev pub queued_row : Queued → SqlRow
queued_row x = Int (pos x.id) ∷ queued_cells x

abbrev pub kind_in : ℕ → Kind
kind_in zero = Binary
kind_in (suc zero) = Counter
kind_in (suc (suc zero)) = Analog
kind_in (suc (suc (suc number))) = kind_in number

abbrev pub event_of : Queued → Numbered
event_of x = record {
  id = x.id;
  row = record { kind = kind_in x.lane; index = x.index; flags = x.flags; value = x.value; time = if x.is_short then None else x.time };
}

-- ---- a row of `lanes`: the lane's number, how many rows it takes, how many it has dropped, and whether it raised the overflow

abbrev pub figures_cells : Figures → SqlRow
figures_cells f = Null ∷ Int (pos f.capacity) ∷ Int (pos f.lost) ∷ Int (if f.raised then pos 1 else pos 0) ∷ []

-- the lanes from a number on
abbrev pub figures_rows : ℕ → List Figures → List SqlRow
figures_rows number [] = []
figures_rows number (f ∷ fs) = (Int (pos number) ∷ figures_cells f) ∷ figures_rows (number + 1) fs

abbrev pub no_figures : Figures
no_figures = record { capacity = 0; lost = 0; raised = false }

-- ---- the lanes that the tables hold

-- the events of one lane
abbrev pub in_lane : ℕ → List Queued → List Numbered
in_lane number rows = map event_of (filter (λ x. x.lane == number) rows)

abbrev pub lane_of : List Queued → List Figures → ℕ → LaneState
lane_of rows figures number = record {
  capacity = (slice_index_or figures number no_figures).capacity;
  rows = in_lane number rows;
  lost = (slice_index_or figures number no_figures).lost;
}

-- the rows of a queue's table, by their ids, and of its lanes', by their numbers, are those of the nine lanes, none of
-- another, and the last id used stands among the counts under the table's name; in a table rows stand in no order
pub record HoldsLanes (name : List ℕ) (events counts numbers : List SqlRow) (s : EventBuffer) (figures : List Figures) : Type 0 where
  pub queued : List Queued
  pub queue_is : IsPermutation (map queued_row queued) events
  pub lanes_is : IsPermutation (figures_rows 0 figures) numbers
  pub counted : IsCounted name counts s.last_id
  pub rise : IsAscending (λ x y. x.id < y.id) queued
  pub up_to_last : AllByRecursion (λ x. x.id ≤ s.last_id) queued
  pub low : AllByRecursion (λ x. x.lane < LANES) queued
  pub nine : length figures ≡ LANES
  pub lanes : (number : ℕ) → number < LANES → lane_at s number ≡ lane_of queued figures number

-- in `queue`, `sqlite_sequence` and `lanes`
abbrev pub HoldsIn : Trees → EventBuffer → List Figures → Type 0
HoldsIn db = HoldsLanes (codes "queue") (db 1) (db 2) (db 3)

-- `form` is one row with the number 1
abbrev pub IsForm1 : List SqlRow → Type 0
IsForm1 rows = (id : ℤ) × (rows ≡ (Int id ∷ Int (pos 1) ∷ []) ∷ [])

-- the database is a queue's, and holds these lanes
pub record HoldsQueue (db : Database) (s : EventBuffer) (figures : List Figures) : Type 0 where
  pub form_checks : List Term
  pub queue_checks : List Term
  pub lanes_checks : List Term
  pub schema : db.schema ≡ queue_schema form_checks queue_checks lanes_checks
  pub form : IsForm1 (db.trees 0)
  pub lanes : HoldsIn db.trees s figures

-- the overflow stands where some lane has raised it
abbrev pub is_raised : List Figures → Bool
is_raised figures = list_any (λ f. f.raised) figures

-- the trees are a queue's, and hold these lanes
pub record HoldsBuffer (db : Trees) (s : EventBuffer) : Type 0 where
  pub figures : List Figures
  pub form : IsForm1 (db 0)
  pub lanes : HoldsIn db s figures
  pub overflow : s.overflow ≡ is_raised figures

-- the database is a queue's and holds these lanes, whatever is counted of their ids
pub record IsUncounted (db : Database) (s : EventBuffer) : Type 0 where
  pub form_checks : List Term
  pub queue_checks : List Term
  pub lanes_checks : List Term
  pub schema : db.schema ≡ queue_schema form_checks queue_checks lanes_checks
  pub form : IsForm1 (db.trees 0)
  pub counts : List SqlRow
  pub figures : List Figures
  pub lanes : HoldsLanes (codes "queue") (db.trees 1) counts (db.trees 3) s figures
  pub overflow : s.overflow ≡ is_raised figures

-- the database is a queue's, and holds these lanes
pub record IsQueue (db : Database) (s : EventBuffer) : Type 0 where
  pub form_checks : List Term
  pub queue_checks : List Term
  pub lanes_checks : List Term
  pub schema : db.schema ≡ queue_schema form_checks queue_checks lanes_checks
  pub holds : HoldsBuffer db.trees s
