-- Definition: how a task came out, and what an outstation that did as it was asked has answered (IEEE Std 1815-2012, application layer:
-- internal indications; object library: control status codes).
use Rattle.std.specs.Prelude.{Bool, true, false, ◌&&◌, ◌==◌, List, [], ◌∷◌, Option, Some, None}
use Rattle.dnp_appfragment.specs.declared.iin.Iin.{Iin}
use Rattle.dnp_master.specs.declared.outcome.Outcome.{Outcome}
use Rattle.dnp_master.specs.declared.outcome.Outcome.TheVariants.{Done, Control, Unlike}
use Rattle.dnp_master.specs.declared.task.Task.{Task}
use Rattle.dnp_poll.specs.declared.task_end.TaskEnd.{TaskEnd}

-- how the task that was asked last came out, if it did, under the indications of the fragment that ended it
abbrev pub end_of : Option Task → Option Outcome → Iin → List TaskEnd
end_of (Some task) (Some outcome) iin = record { task = task; outcome = outcome; iin = iin } ∷ []
end_of _ _ _ = []

-- a command was answered by itself with the status SUCCESS, and any other task at all
abbrev pub is_accepted : Outcome → Bool
is_accepted (Done iin) = true
is_accepted (Control status) = status == 0
is_accepted Unlike = false

-- and no bit of IIN2 is set
abbrev pub is_done : TaskEnd → Bool
is_done end = is_accepted end.outcome && (end.iin.two == 0)
