-- Definition: rows and commands through the index map: what stands below under an index of a substation's stands above
-- under the index above, and is else the same.
use Rattle.std.specs.Prelude.{ℕ, List, Option, filter_map, slice_index_or}
use Rattle.std.specs.Option.{option_map, option_and_then}
use Rattle.dnp_objects.specs.declared.row.Row.{Row}
use Rattle.dnp_objects.specs.declared.lane.LaneRow.{LaneRow}
use Rattle.dnp_objects.specs.declared.command.Command.{Command}
use Rattle.dnp_objects.specs.declared.command.Command.TheVariants.{Block, Set16, Set32}
use Rattle.dnp_objects.specs.Commands.{index_of}
use Rattle.dnp_pointdb.specs.Classes.{class_at}
use Rattle.dnp_pointdb.specs.Events.{lane_of}
use Rattle.dnp_pointdb.specs.Plan as points
use Rattle.dnp_concentrator.specs.declared.span.Spans.{Spans}
use Rattle.dnp_concentrator.specs.IndexKinds.{kind_of_points, kind_of_command}
use Rattle.dnp_concentrator.specs.IndexMap.{above_in, index_above, index_below, no_spans}

-- ---- rows

-- a row of a substation whose indices stand so, as it stands above
abbrev pub row_in : Spans → Row → Option Row
row_in spans row = option_map (λ index. record row { index = index }) (above_in spans (kind_of_points row.kind) row.index)

-- a substation's row as it stands above
abbrev pub row_above : List Spans → ℕ → Row → Option Row
row_above spans substation row = row_in (slice_index_or spans substation no_spans) row

-- whose row a row above is, and that row there
abbrev pub row_below : List Spans → Row → Option (ℕ × Row)
row_below spans row =
    option_map (λ p. (p.0, record row { index = p.1 })) (index_below spans (kind_of_points row.kind) row.index)

-- a row above with its lane: that of the class that the plan of the points above gives its point, and of its kind
abbrev pub lane_row : points.Plan → Row → Option LaneRow
lane_row plan row =
    option_and_then (λ class. option_map (λ lane. record { lane = lane; row = row }) (lane_of class row.kind)) (class_at plan row.kind row.index)

-- a substation's event as it is queued above
abbrev pub queued_row : List Spans → points.Plan → ℕ → Row → Option LaneRow
queued_row spans plan substation row = option_and_then (lane_row plan) (row_above spans substation row)

abbrev pub queued_rows : List Spans → points.Plan → ℕ → List Row → List LaneRow
queued_rows spans plan substation rows = filter_map (queued_row spans plan substation) rows

-- ---- commands

-- the same command to the output of another index
abbrev pub with_index : Command → ℕ → Command
with_index (Block index code count on off) new = Block new code count on off
with_index (Set16 index value) new = Set16 new value
with_index (Set32 index value) new = Set32 new value

-- a command to a substation's output as it stands above
abbrev pub command_above : List Spans → ℕ → Command → Option Command
command_above spans substation command =
    option_map (λ index. with_index command index) (index_above spans substation (kind_of_command command) (index_of command))

-- whom a command above is for, and that command there
abbrev pub command_below : List Spans → Command → Option (ℕ × Command)
command_below spans command =
    option_map (λ p. (p.0, with_index command p.1)) (index_below spans (kind_of_command command) (index_of command))
