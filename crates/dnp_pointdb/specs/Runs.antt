-- Definition: a run of a whole station: changes of its points and restarts, one after another, each done by the
-- call's own function; and what of it concerns one point.
use Rattle.std.specs.Prelude.{ℕ, Bool, ◌&&◌, ◌==◌, if◌then◌else◌, List, [], ◌∷◌, ◌++◌, filter, Option, Some, None, Result, Ok, Err}
use Rattle.std.specs.Option.{option_to_list}
use Rattle.std.specs.List.{filter_map}
use Rattle.dnp_objects.specs.declared.row.Kind.{Kind}
use Rattle.dnp_objects.specs.declared.lane.LaneRow.{LaneRow}
use Rattle.dnp_objects.specs.Equality.{kind_eq}
use Rattle.dnp_pointdb.specs.declared.reading.Reading.{Reading}
use Rattle.dnp_pointdb.specs.declared.state.PointState.{PointState}
use Rattle.dnp_pointdb.specs.declared.fault.ChangeFault.{ChangeFault}
use Rattle.dnp_pointdb.specs.Events.{Happening, Reads, Restarts, happened}
use Rattle.dnp_pointdb.specs.Database.{Database, answer_of, changed_of, restarted}

-- a call of `change` or of `restart`
pub data Move : Type 0 where
  Change : Kind → ℕ → Reading → Move
  Restart : Move

-- the database after a call, and the rows that the call made
abbrev pub moved : Database → Move → Database
moved database (Change kind index reading) = changed_of database kind index reading
moved database Restart = restarted database

abbrev pub rows_made : Result (Option LaneRow) ChangeFault → List LaneRow
rows_made (Ok row) = option_to_list row
rows_made (Err fault) = []

abbrev pub made : Database → Move → List LaneRow
made database (Change kind index reading) = rows_made (answer_of database kind index reading)
made database Restart = []

-- the rows of a whole run, in their order
abbrev pub rows_of : Database → List Move → List LaneRow
rows_of database [] = []
rows_of database (move ∷ moves) = made database move ++ rows_of (moved database move) moves

-- ---- one point

-- what a call is to one point, if it concerns the point
abbrev pub happening_of : Kind → ℕ → Move → Option Happening
happening_of kind index (Change kind' index' reading) =
    (if kind_eq kind' kind && index' == index then Some (Reads reading) else None)
happening_of kind index Restart = Some Restarts

abbrev pub happenings_of : Kind → ℕ → List Move → List Happening
happenings_of kind index moves = filter_map (happening_of kind index) moves

abbrev pub is_of : Kind → ℕ → LaneRow → Bool
is_of kind index made = kind_eq made.row.kind kind && made.row.index == index

abbrev pub rows_at : Kind → ℕ → List LaneRow → List LaneRow
rows_at kind index rows = filter (is_of kind index) rows

-- the events of a point that is in the plan, by themselves
abbrev pub happened_at : Option PointState → Kind → ℕ → List Happening → List LaneRow
happened_at None kind index happenings = []
happened_at (Some state) kind index happenings = happened kind index state.point state.reported happenings
