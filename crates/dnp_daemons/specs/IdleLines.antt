-- Definition: the lines of a script that do nothing on any system of a plan, and why: what they name is not in the plan, or a point
-- can't read it, or a master asks it in no state (own rule).
use Rattle.std.specs.Prelude.{ℕ, ◌+◌, ◌^◌, Bool, nat_lt, ◌==◌, if◌then◌else◌, List, [], ◌∷◌, length, Option, Some, None}
use Rattle.std.specs.Option.{option_and_then}
use Rattle.dnp_concentrator.specs.IndexKinds.{kind_of_points, kind_of_command}
use Rattle.dnp_concentrator.specs.IndexMap.{span_at}
use Rattle.dnp_concentrator.specs.Plan.{map_of}
use Rattle.dnp_concentrator.specs.declared.index_kind.IndexKind.{IndexKind}
use Rattle.dnp_concentrator.specs.declared.plan.Plan.{Plan}
use Rattle.dnp_master.specs.Requests.{has_class}
use Rattle.dnp_master.specs.declared.task.Task.{Task}
use Rattle.dnp_master.specs.declared.task.Task.TheVariants.{Enable, Disable, WriteTime}
use Rattle.dnp_objects.specs.Commands.{index_of}
use Rattle.dnp_objects.specs.declared.command.Command.{Command}
use Rattle.dnp_objects.specs.declared.command.Command.TheVariants.{Block, Set16, Set32}
use Rattle.dnp_objects.specs.declared.row.Kind.{Kind}
use Rattle.dnp_pointdb.specs.Ranges.{is_carried, is_in_time}
use Rattle.dnp_pointdb.specs.declared.reading.Reading.{Reading}
use Rattle.dnp_world.specs.declared.event.Event.TheVariants.{Ask, Change, Issue, Pass}
use Rattle.dnp_daemons.specs.ScriptLines.{reading_of}
use Rattle.dnp_daemons.specs.declared.script.ScriptLine.{ScriptLine}
use Rattle.dnp_daemons.specs.declared.script.ScriptLine.TheVariants.{One}
use Rattle.dnp_daemons.specs.declared.script.idle.IdleLines.{IdleLines}
use Rattle.dnp_daemons.specs.declared.script.idle.IdleReason.{IdleReason}
use Rattle.dnp_daemons.specs.declared.script.idle.IdleReason.TheVariants.{NoPoint, ValueRange, TimeRange, NoOutput, NoSetpoint, NoEvents, NoTime}

-- ---- what the plan has

-- the substation has this point, output or setpoint
abbrev pub has_index : Plan → ℕ → IndexKind → ℕ → Bool
has_index plan substation kind index = nat_lt index (span_at (map_of plan) substation kind).count

-- ---- one line

-- the first cause for which a point of the kind can't read this
abbrev pub reading_reason : Kind → Reading → Option IdleReason
reading_reason kind reading =
    if is_carried kind reading then (if is_in_time reading.time then None else Some TimeRange) else Some ValueRange

-- what a command names
abbrev pub unnamed_by : Command → IdleReason
unnamed_by (Block index code count on off) = NoOutput
unnamed_by (Set16 index value) = NoSetpoint
unnamed_by (Set32 index value) = NoSetpoint

-- why a master asks the task in no state: class 0 has no events, and a time has 48 bits
abbrev pub task_reason : Task → Option IdleReason
task_reason (Enable classes) = if has_class classes 0 then Some NoEvents else None
task_reason (Disable classes) = if has_class classes 0 then Some NoEvents else None
task_reason (WriteTime time) = if nat_lt time (2 ^ 48) then None else Some TimeRange
task_reason _ = None

-- why the line does nothing on any system of the plan, if it does
abbrev pub idle_reason : Plan → ScriptLine → Option IdleReason
idle_reason plan (One (Change substation kind index reading)) =
    if has_index plan substation (kind_of_points kind) index then reading_reason kind reading else Some NoPoint
idle_reason plan (One (Issue centre substation command)) =
    if has_index plan substation (kind_of_command command) (index_of command) then None else Some (unnamed_by command)
idle_reason plan (One (Ask link task)) = task_reason task
idle_reason plan (One (Pass ms)) = if ms == 0 then Some NoTime else None
idle_reason plan _ = None

-- ---- the lines of a text

-- the same of a line of a text; one that doesn't fit has no reason
abbrev pub reason_of : Plan → List ℕ → Option IdleReason
reason_of plan line = option_and_then (idle_reason plan) (reading_of (length plan.substations) line)

-- the lines that have a reason, by their numbers from this one on
abbrev pub idle_from : Plan → ℕ → List (List ℕ) → List (ℕ × IdleReason)
idle_from plan number [] = []
idle_from plan number (line ∷ lines) = with_reason number (reason_of plan line) (idle_from plan (number + 1) lines)
  where
    with_reason : ℕ → Option IdleReason → List (ℕ × IdleReason) → List (ℕ × IdleReason)
    with_reason number None more = more
    with_reason number (Some reason) more = (number, reason) ∷ more

-- how many they are, and the first of them
abbrev pub summed : List (ℕ × IdleReason) → Option IdleLines
summed [] = None
summed (line ∷ lines) = Some (record { count = length lines + 1; first = line.0; reason = line.1 })
