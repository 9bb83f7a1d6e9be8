-- Definition: the outcome of a task (IEEE Std 1815-2012, application layer: select, operate and their
-- responses, which repeat the objects of the request with a status put in).
use Rattle.std.specs.Prelude.{ℕ, ◌==◌, if◌then◌else◌, List, [], ◌∷◌, Option, Some, None}
use Rattle.dnp_objects.specs.Equality.{command_eq}
use Rattle.dnp_objects.specs.declared.command.Command.{Command}
use Rattle.dnp_appfragment.specs.declared.iin.Iin.{Iin}
use Rattle.dnp_appfragment.specs.Headers.{Head, count_of}
use Rattle.dnp_appfragment.specs.Meaning.{command_in}
use Rattle.dnp_master.specs.declared.outcome.Echo.{Echo}
use Rattle.dnp_master.specs.declared.outcome.Echo.TheVariants.{Nothing, Same, Other}
use Rattle.dnp_master.specs.declared.outcome.Outcome.{Outcome}
use Rattle.dnp_master.specs.declared.outcome.Outcome.TheVariants.{Done, Control, Unlike}
use Rattle.dnp_master.specs.declared.task.Task.{Task}
use Rattle.dnp_master.specs.declared.task.Task.TheVariants.{Poll, ClearRestart, Enable, Disable, WriteTime, Select, Operate}

-- the command of a task that sends one
abbrev pub command_for : Task → Option Command
command_for (Poll classes) = None
command_for ClearRestart = None
command_for (Enable classes) = None
command_for (Disable classes) = None
command_for (WriteTime time) = None
command_for (Select command) = Some command
command_for (Operate command) = Some command

-- ---- what a response repeats of the one command of its request

-- the object is this command, with whatever status
abbrev pub repeated_by : Command → Option (Command × ℕ) → Echo
repeated_by command None = Other
repeated_by command (Some answer) = if command_eq answer.0 command then Same answer.1 else Other

-- a header of one object
abbrev pub echo_by : Command → Head → Echo
echo_by command h = if count_of h.range == 1 then repeated_by command (command_in h 0) else Other

-- the headers of one fragment: none, one that is the command, or anything else
abbrev pub echo_in : Command → List Head → Echo
echo_in command [] = Nothing
echo_in command (h ∷ []) = echo_by command h
echo_in command (h ∷ h' ∷ more) = Other

-- of two fragments, one after the other: what the one repeats that isn't empty
abbrev pub echo_with : Echo → Echo → Echo
echo_with Nothing second = second
echo_with (Same status) Nothing = Same status
echo_with (Same status) (Same other) = Other
echo_with (Same status) Other = Other
echo_with Other second = Other

-- what a task's response repeats so far, after one more fragment; a task without a command isn't looked at
abbrev pub echo_after : Option Command → Echo → List Head → Echo
echo_after None echo headers = echo
echo_after (Some command) echo headers = echo_with echo (echo_in command headers)

-- ---- the outcome

abbrev pub outcome_by : Echo → Outcome
outcome_by Nothing = Unlike
outcome_by (Same status) = Control status
outcome_by Other = Unlike

-- of a command its status, if the response repeats the command; of another task the indications of the last fragment
abbrev pub outcome_for : Option Command → Echo → Iin → Outcome
outcome_for None echo iin = Done iin
outcome_for (Some command) echo iin = outcome_by echo

-- the command that stands selected after this outcome: that of a select that was answered SUCCESS
abbrev pub selected_by : Task → Echo → Option Command
selected_by (Select command) (Same status) = if status == 0 then Some command else None
selected_by (Select command) Nothing = None
selected_by (Select command) Other = None
selected_by (Poll classes) echo = None
selected_by ClearRestart echo = None
selected_by (Enable classes) echo = None
selected_by (Disable classes) echo = None
selected_by (WriteTime time) echo = None
selected_by (Operate command) echo = None
