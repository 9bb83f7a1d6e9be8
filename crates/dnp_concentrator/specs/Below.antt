-- Definition: the links of a concentrator to its substations, each with its master and the control in progress there, and
-- what comes of the rows that a master takes: events are queued above, and readings above are set.
use Rattle.std.specs.Prelude.{ℕ, false, List, [], ◌∷◌, map, Option, Some, None, slice_index_or}
use Rattle.dnp_objects.specs.declared.row.Row.{Row}
use Rattle.dnp_pointdb.specs.declared.reading.Reading.{Reading}
use Rattle.dnp_pointdb.specs.declared.times.Times.{Times}
use Rattle.dnp_pointdb.specs.Database.{Database, set_of}
use Rattle.dnp_pointdb.specs.Plan.{plan_of}
use Rattle.dnp_concentrator.specs.declared.plan.Plan.{Plan}
use Rattle.dnp_concentrator.specs.declared.plan.SubPlan.{SubPlan}
use Rattle.dnp_concentrator.specs.declared.span.Spans.{Spans}
use Rattle.dnp_concentrator.specs.Mapped.{row_above}
use Rattle.dnp_concentrator.specs.PointsAbove.{points_below}
use Rattle.dnp_concentrator.specs.Relaying.{Relaying, new_relaying}

-- ---- the links

-- a new one is closed, and its master has the substation's points
abbrev pub new_link : Times → SubPlan → Relaying
new_link times substation = new_relaying (points_below substation) times

-- by the substations' numbers
abbrev pub new_links : Plan → List Relaying
new_links plan = map (new_link plan.times) plan.substations

-- a number that is no substation's has no link
abbrev pub no_times : Times
no_times = record { confirm_ms = 0; response_ms = 0; select_ms = 0; retries = 0; unsolicited = false }

abbrev pub no_link : Relaying
no_link = new_relaying (plan_of [] [] []) no_times

abbrev pub link_in : List Relaying → ℕ → Relaying
link_in links number = slice_index_or links number no_link

-- ---- readings above

-- what a row says of its point
abbrev pub reading_of : Row → Reading
reading_of row = record { value = row.value; flags = row.flags; time = row.time }

-- a row above becomes the reading of its point there, and no event
abbrev pub set_by : Database → Option Row → Database
set_by points None = points
set_by points (Some row) = set_of points row.kind row.index (reading_of row)

-- the same of each of a substation's rows, in order
abbrev pub readings_set : List Spans → ℕ → Database → List Row → Database
readings_set spans substation points [] = points
readings_set spans substation points (row ∷ rows) = readings_set spans substation (set_by points (row_above spans substation row)) rows
