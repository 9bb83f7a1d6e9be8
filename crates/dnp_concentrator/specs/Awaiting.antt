-- Definition: whose response is awaited while a control is in progress.
use Rattle.std.specs.Prelude.{◌≡◌, true, Option, Some, None, IfSome}
use Rattle.std.specs.Option.{IsSomeAnd}
use Rattle.dnp_objects.specs.declared.command.Command.{Command}
use Rattle.dnp_master.specs.declared.request.OpenRequest.{OpenRequest}
use Rattle.dnp_master.specs.declared.task.Task.{Task}
use Rattle.dnp_master.specs.declared.task.Task.TheVariants.{Select, Operate}
use Rattle.dnp_concentrator.specs.declared.progress.Progress.{Progress}
use Rattle.dnp_concentrator.specs.declared.progress.Stage.{Stage}
use Rattle.dnp_concentrator.specs.declared.progress.Stage.TheVariants.{Selecting, Selected, Operating, Known}
use Rattle.dnp_concentrator.specs.Relaying.{Relaying}

-- the task whose answer a control awaits at this stage
abbrev pub awaited : Stage → Command → Option Task
awaited Selecting command = Some (Select command)
awaited Selected command = None
awaited Operating command = Some (Operate command)
awaited (Known status) command = None

-- where the control awaits an answer, the open request is that very task
abbrev pub IsAwaited : Option Progress → Option OpenRequest → Type 0
IsAwaited progress request =
    IfSome progress (λ p. IfSome (awaited p.stage p.command) (λ task. IsSomeAnd request (λ sent. sent.task ≡ task)))

-- while the link is open
abbrev pub AwaitsOwn : Relaying → Type 0
AwaitsOwn r = r.master.is_open ≡ true → IsAwaited r.progress r.master.request
