-- Words of private steps: the database of a queue for two centres, as a statement for one of them finds and leaves it.
use Rattle.std.specs.Prelude.{◌≡◌, ◌⊎◌, ℕ, List, [], ◌∷◌}
use Rattle.sqlite.specs.Table.{Table}
use Rattle.sqlite.specs.Term.{Term}
use Rattle.sqlite.specs.Schema.{Schema}
use Rattle.sqlite.specs.Order.{Row as SqlRow}
use Rattle.sqlite.specs.Tree.{Trees}
use Rattle.sqlite.specs.Effect.{Database, IsDatabase}
use Rattle.sqlite.specs.State.{State}
use Rattle.dnp_eventbuf.specs.EventBuffer.{EventBuffer}
use Rattle.dnp_store.specs.declared.queue_side.QueueSide.{QueueSide}
use Rattle.dnp_store.specs.declared.queue_side.QueueSide.TheVariants.{First, Second}
use Rattle.dnp_store.specs.Tables.{AreBehind, IsCounted, after_tables, checks_at, counts_of, form_with, sequence}
use Rattle.dnp_store.specs.QueueTables.{Figures, HoldsLanes, is_raised, lanes_with, queue_schema, queue_with}
use Rattle.dnp_store.specs.PairTables.{Checks, CountSides, HoldsOn, HoldsSide, IsForm2, Sides, beside, lanes_b_with, lanes_tree, pair_names, pair_schema, queue_b_with, rows_name, rows_tree}

-- it holds these lanes on this side, with these figures, and others on the other side
pub record HoldsFor (side : QueueSide) (others : EventBuffer) (db : Database) (s : EventBuffer) (figures : List Figures) : Type 0 where
  pub checks : Checks
  pub schema : db.schema ≡ pair_schema checks
  pub behind : AreBehind pair_names checks.more
  pub form : IsForm2 (db.trees 0)
  pub counts : CountSides (db.trees 2)
  pub lanes : HoldsOn side db.trees s figures
  pub rest : HoldsSide (beside side) db.trees others

-- with figures that say whether the overflow stands
pub record IsFor (side : QueueSide) (others : EventBuffer) (db : Database) (s : EventBuffer) : Type 0 where
  pub figures : List Figures
  pub holds : HoldsFor side others db s figures
  pub overflow : s.overflow ≡ is_raised figures

-- the lanes on this side, and others on the other
abbrev pub sides_of : QueueSide → EventBuffer → EventBuffer → Sides
sides_of First s others = record { first = s; second = others }
sides_of Second s others = record { first = others; second = s }

-- its six tables, with the CHECKs that stand at their places
abbrev pub six_tables : List Table → List Table
six_tables tables =
    form_with (checks_at tables 0) ∷ queue_with (checks_at tables 1) ∷ sequence ∷ lanes_with (checks_at tables 3)
    ∷ queue_b_with (checks_at tables 4) ∷ lanes_b_with (checks_at tables 5) ∷ []

-- the CHECKs on a queue's tables, which stand first and in their order, and what stands behind
abbrev pub checks_among : Schema → Checks
checks_among schema = record {
  form = checks_at schema.tables 0;
  queue = checks_at schema.tables 1;
  lanes = checks_at schema.tables 3;
  queue_b = checks_at schema.tables 4;
  lanes_b = checks_at schema.tables 5;
  more = after_tables 6 schema;
}

-- a queue's database shows this of its trees, and stays as it was
abbrev pub ReadsPair : State → State → (Trees → Type 0) → Type 0
ReadsPair old new P = (c : Checks) → IsDatabase old.now → old.now.schema ≡ pair_schema c → (new.now ≡ old.now) × P old.now.trees

-- these are the last ids used on the two sides, and the rows that say so are all that there are, each under an id of its own
pub record CountsTwo (rows : List SqlRow) (n m : ℕ) : Type 0 where
  pub counts : CountSides rows
  pub first : IsCounted (rows_name First) (counts_of (rows_name First) rows) n
  pub second : IsCounted (rows_name Second) (counts_of (rows_name Second) rows) m

-- the tables of this side stand there: in those of a queue for two centres, or as the first in those of one
abbrev pub HasSide : QueueSide → Schema → Type 0
HasSide side schema =
    ((c : Checks) × (schema ≡ pair_schema c)) ⊎ ((form rows lanes : List Term) × (side ≡ First) × (schema ≡ queue_schema form rows lanes))

-- a database that has them, of either form, shows this of its trees, and stays as it was
abbrev pub ReadsSide : QueueSide → State → State → (Trees → Type 0) → Type 0
ReadsSide side old new P = IsDatabase old.now → HasSide side old.now.schema → (new.now ≡ old.now) × P old.now.trees

-- they hold these lanes, whose last id used stands among these counts; their overflow stands where one of them has raised it
pub record HoldsAmong (side : QueueSide) (db : Trees) (counts : List SqlRow) (s : EventBuffer) : Type 0 where
  pub figures : List Figures
  pub lanes : HoldsLanes (rows_name side) (db (rows_tree side)) counts (db (lanes_tree side)) s figures
  pub overflow : s.overflow ≡ is_raised figures
