-- Definition: what a master keeps of select before operate (IEEE Std 1815-2012, application layer: SELECT and OPERATE).
use Rattle.std.specs.Prelude.{◌≡◌, ◌⊎◌, ℕ, List, Option, Some, Ok, IfSome}
use Rattle.dnp_appfragment.specs.Fragments.{Answered}
use Rattle.dnp_master.specs.Calls.{ask_answer, follow_of}
use Rattle.dnp_master.specs.State.{State}
use Rattle.dnp_master.specs.declared.outcome.Outcome.{Outcome}
use Rattle.dnp_master.specs.declared.outcome.Outcome.TheVariants.{Control}
use Rattle.dnp_master.specs.declared.task.Task.TheVariants.{Operate, Select}
use Rattle.dnp_objects.specs.declared.command.Command.{Command}

-- an OPERATE is asked only while its own command stands selected
abbrev pub OperatesSelected : Type 0
OperatesSelected = (s : State) (command : Command) (octets : List ℕ) → ask_answer s (Operate command) ≡ Ok octets → s.selected ≡ Some command

-- it stood selected, or this is the outcome SUCCESS of its select
abbrev pub StandsSelected : State → Option Outcome → Command → Type 0
StandsSelected s outcome command =
    (s.selected ≡ Some command) ⊎ ((outcome ≡ Some (Control 0)) × IfSome s.request (λ asked. asked.task ≡ Select command))

-- a response makes a command stand selected only as the answer SUCCESS to its select
abbrev pub SelectsBySuccess : Type 0
SelectsBySuccess = (s : State) (now : ℕ) (a : Answered) (command : Command)
    → (follow_of s now a).state.selected ≡ Some command → StandsSelected s (follow_of s now a).outcome command
