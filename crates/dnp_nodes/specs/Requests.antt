-- Definition: the tasks that a schedule's words stand for.
use Rattle.std.specs.Prelude.{◌≡◌, ◌≢◌, ◌⊎◌, ℕ, ◌-◌, ◌^◌, true, false, min, ◌∷◌, [], Option, Some, None}
use Rattle.dnp_master.specs.declared.task.Classes.{Classes}
use Rattle.dnp_master.specs.declared.task.Task.{Task}
use Rattle.dnp_master.specs.declared.task.Task.TheVariants.{Poll, ClearRestart, Enable, Disable, WriteTime}
use Rattle.dnp_schedule.specs.declared.task_kind.TaskKind.{TaskKind}
use Rattle.dnp_schedule.specs.declared.task_kind.TaskKind.TheVariants.{DisableUnsolicited, IntegrityPoll, ClearRestart as Clears, WriteTime as WritesTime, EnableUnsolicited, Control, EventPoll, OtherPoll}
use Rattle.dnp_nodes.specs.declared.requests.LinkClasses.{LinkClasses}

abbrev pub class_1 : Classes
class_1 = record { 0 = false ∷ true ∷ false ∷ false ∷ [] }

abbrev pub class_2 : Classes
class_2 = record { 0 = false ∷ false ∷ true ∷ false ∷ [] }

abbrev pub class_3 : Classes
class_3 = record { 0 = false ∷ false ∷ false ∷ true ∷ [] }

abbrev pub event_classes : Classes
event_classes = record { 0 = false ∷ true ∷ true ∷ true ∷ [] }

-- one class of events
abbrev pub IsOneClass : Classes → Type 0
IsOneClass classes = (classes ≡ class_1) ⊎ (classes ≡ class_2) ⊎ (classes ≡ class_3)

-- the last millisecond since 1970 that a task can name
abbrev pub last_time : ℕ
last_time = 2 ^ 48 - 1

-- the other poll has other octets than both polls, so an outstation doesn't take it for either, repeated; a control is relayed
abbrev pub StandsFor : TaskKind → LinkClasses → ℕ → Option Task → Type 0
StandsFor DisableUnsolicited classes utc task = task ≡ Some (Disable event_classes)
StandsFor IntegrityPoll classes utc task = task ≡ Some (Poll classes.integrity)
StandsFor Clears classes utc task = task ≡ Some ClearRestart
StandsFor WritesTime classes utc task = task ≡ Some (WriteTime (min utc last_time))
StandsFor EnableUnsolicited classes utc task = task ≡ Some (Enable classes.unsolicited)
StandsFor EventPoll classes utc task = task ≡ Some (Poll classes.events)
StandsFor OtherPoll classes utc task =
    (other : Classes) × (task ≡ Some (Poll other)) × IsOneClass other × (other ≢ classes.integrity) × (other ≢ classes.events)
StandsFor Control classes utc task = task ≡ None
