-- Definition: the tables of a queue for two centres, and the lanes that they hold for each of them (an own form: IEEE Std
-- 1815-2012 knows no stored tables).
use Rattle.std.specs.Prelude.{◌≡◌, ◌⊎◌, ◌==◌, ℕ, ℤ, pos, true, false, if◌then◌else◌, List, [], ◌∷◌, codes}
use Rattle.sqlite_rules.specs.Lists.{Has}
use Rattle.sqlite.specs.declared.types.Value.TheVariants.{Int, Text}
use Rattle.sqlite.specs.Table.{Table}
use Rattle.sqlite.specs.Term.{Term}
use Rattle.sqlite.specs.Schema.{Schema}
use Rattle.sqlite.specs.Order.{Row as SqlRow, column}
use Rattle.sqlite.specs.Tree.{Trees}
use Rattle.sqlite.specs.Effect.{Database}
use Rattle.dnp_eventbuf.specs.Sides.{at}
use Rattle.dnp_objects.specs.declared.lane.LaneRow.{LaneRow}
use Rattle.dnp_eventbuf.specs.EventBuffer.{EventBuffer, empty_buffer, with_rows}
use Rattle.dnp_store.specs.declared.queue_side.QueueSide.{QueueSide}
use Rattle.dnp_store.specs.declared.queue_side.QueueSide.TheVariants.{First, Second}
use Rattle.dnp_store.specs.Tables.{AreBehind, HaveOwnIds, before, table_of, schema_of, counts_of}
use Rattle.dnp_store.specs.QueueTables.{Figures, HoldsLanes, IsQueue, is_raised, lanes_columns, lanes_with, queue_columns, queue_with}

-- ---- the tables: those of one centre's lanes, and two more of their form for the other's

abbrev pub queue_b_with : List Term → Table
queue_b_with checks = table_of (codes "queue_b") 4 queue_columns true true checks

abbrev pub lanes_b_with : List Term → Table
lanes_b_with checks = table_of (codes "lanes_b") 5 lanes_columns true false checks

-- their names, and that of the table in which AUTOINCREMENT counts
abbrev pub pair_names : List (List ℕ)
pair_names =
    codes "form" ∷ codes "queue" ∷ codes "sqlite_sequence" ∷ codes "lanes" ∷ codes "queue_b" ∷ codes "lanes_b" ∷ []

-- the CHECKs that stand on the five tables, and what stands behind them
pub record Checks : Type 0 where
  pub form : List Term
  pub queue : List Term
  pub lanes : List Term
  pub queue_b : List Term
  pub lanes_b : List Term
  pub more : Schema

-- they come first
abbrev pub pair_schema : Checks → Schema
pair_schema c = schema_of c.form (queue_with c.queue) (before (lanes_with c.lanes ∷ queue_b_with c.queue_b ∷ lanes_b_with c.lanes_b ∷ []) c.more)

-- ---- where a side stands: its rows and their table's name, and the figures of its lanes

abbrev pub rows_tree : QueueSide → ℕ
rows_tree First = 1
rows_tree Second = 4

abbrev pub rows_name : QueueSide → List ℕ
rows_name First = codes "queue"
rows_name Second = codes "queue_b"

abbrev pub lanes_tree : QueueSide → ℕ
lanes_tree First = 3
lanes_tree Second = 5

-- the other side
abbrev pub beside : QueueSide → QueueSide
beside First = Second
beside Second = First

-- ---- the rows of `sqlite_sequence`

-- the row counts for the rows of one of the two sides
abbrev pub IsOfSides : SqlRow → Type 0
IsOfSides row = (column row 1 ≡ Text (rows_name First)) ⊎ (column row 1 ≡ Text (rows_name Second))

-- each of them does, and rows under one id are one row
pub record CountSides (rows : List SqlRow) : Type 0 where
  pub own : HaveOwnIds rows
  pub only : (row : SqlRow) → Has rows row → IsOfSides row

-- ---- the lanes that the tables hold

-- `form` is one row with this number
abbrev pub IsForm : ℕ → List SqlRow → Type 0
IsForm n rows = (id : ℤ) × (rows ≡ (Int id ∷ Int (pos n) ∷ []) ∷ [])

-- it has the number of a queue for two centres
abbrev pub IsForm2 : List SqlRow → Type 0
IsForm2 = IsForm 2

-- the tables of a side hold these lanes, with these figures
abbrev pub HoldsOn : QueueSide → Trees → EventBuffer → List Figures → Type 0
HoldsOn side db = HoldsLanes (rows_name side) (db (rows_tree side)) (counts_of (rows_name side) (db 2)) (db (lanes_tree side))

-- the tables of a side hold these lanes; their overflow stands where one of them has raised it
pub record HoldsSide (side : QueueSide) (db : Trees) (s : EventBuffer) : Type 0 where
  pub figures : List Figures
  pub lanes : HoldsOn side db s figures
  pub overflow : s.overflow ≡ is_raised figures

-- the lanes for the first centre and for the second
pub record Sides : Type 0 where
  pub first : EventBuffer
  pub second : EventBuffer

-- those of one centre
abbrev pub side_at : Sides → ℕ → EventBuffer
side_at sides centre = at centre sides.first sides.second

-- with others for one centre; those for the other centre are as they were
abbrev pub with_side : Sides → ℕ → EventBuffer → Sides
with_side sides centre s = if centre == 0 then record { first = s; second = sides.second } else record { first = sides.first; second = s }

-- with rows put into their lanes for both
abbrev pub both_with : Sides → List LaneRow → Sides
both_with sides rows = record { first = with_rows sides.first rows; second = with_rows sides.second rows }

-- the trees are those of a queue for two centres, and hold these lanes; nothing else is counted
pub record HoldsPair (db : Trees) (sides : Sides) : Type 0 where
  pub form : IsForm2 (db 0)
  pub counts : CountSides (db 2)
  pub first : HoldsSide First db sides.first
  pub second : HoldsSide Second db sides.second

-- the database's first tables are those of a queue for two centres, what stands behind leaves them alone, and they hold these
-- lanes
pub record IsPair (db : Database) (sides : Sides) : Type 0 where
  pub checks : Checks
  pub schema : db.schema ≡ pair_schema checks
  pub behind : AreBehind pair_names checks.more
  pub holds : HoldsPair db.trees sides

-- ---- from the form for one centre to that for two

-- its lanes are the first centre's, and the second centre's are empty, with these capacities
abbrev pub migrated : EventBuffer → List ℕ → Sides
migrated buffer capacities = record { first = buffer; second = empty_buffer capacities }

-- the trees hold what becomes of a queue for one centre, if the database is one
abbrev pub HoldsMigrated : Database → List ℕ → Trees → Type 0
HoldsMigrated old capacities db = (buffer : EventBuffer) → IsQueue old buffer → HoldsPair db (migrated buffer capacities)
