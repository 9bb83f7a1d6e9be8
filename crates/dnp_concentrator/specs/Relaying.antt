-- Definition: relaying controls from a book over a link: each is selected, spent in the book, operated, and finished
-- in the book (IEEE Std 1815-2012, application layer: SELECT, OPERATE). A breaker must not operate twice, so a
-- control is spent before its OPERATE is sent, and one that was spent is never sent again.
use Rattle.std.specs.Prelude.{ℕ, ◌==◌, if◌then◌else◌, List, Option, Some, None}
use Rattle.dnp_objects.specs.declared.command.Command.{Command}
use Rattle.dnp_objects.specs.Status.{success, format_error}
use Rattle.dnp_pointdb.specs.Plan.{Plan}
use Rattle.dnp_pointdb.specs.declared.times.Times.{Times}
use Rattle.dnp_controls.specs.declared.book.Entry.{Entry}
use Rattle.dnp_controls.specs.Book.{Ledger, next_of, spent, finished}
use Rattle.dnp_master.specs.declared.outcome.Outcome.{Outcome}
use Rattle.dnp_master.specs.declared.outcome.Outcome.TheVariants.{Done, Control, Unlike}
use Rattle.dnp_master.specs.declared.task.Task.{Task}
use Rattle.dnp_master.specs.declared.task.Task.TheVariants.{Select, Operate}
use Rattle.dnp_master.specs.Calls.{Taking, asked, is_selected}
use Rattle.dnp_master.specs.State as master
use Rattle.dnp_master.specs.State.{State, is_idle}
use Rattle.dnp_concentrator.specs.declared.progress.Progress.{Progress}
use Rattle.dnp_concentrator.specs.declared.progress.Stage.{Stage}
use Rattle.dnp_concentrator.specs.declared.progress.Stage.TheVariants.{Selecting, Selected, Operating, Known}

-- a link's master, and the control that is in progress there
pub record Relaying : Type 0 where
  pub master : State
  pub progress : Option Progress

-- ---- what an outcome makes of the control in progress

-- the status that an outcome counts as: an answer that doesn't repeat the command is one in a wrong form
abbrev pub status_of : Outcome → ℕ
status_of (Done iin) = format_error
status_of (Control status) = status
status_of Unlike = format_error

-- a SELECT that was answered SUCCESS is to be followed by the OPERATE; each other answer is final
abbrev pub select_heard : ℕ → Stage
select_heard status = if status == success then Selected else Known status

-- where none of its requests is open, the outcome is another task's
abbrev pub heard : Stage → Outcome → Stage
heard Selecting outcome = select_heard (status_of outcome)
heard Selected outcome = Selected
heard Operating outcome = Known (status_of outcome)
heard (Known status) outcome = Known status

abbrev pub progress_heard : Option Progress → Option Outcome → Option Progress
progress_heard None outcome = None
progress_heard (Some p) None = Some p
progress_heard (Some p) (Some outcome) = Some (record p { stage = heard p.stage outcome })

-- ---- calls of the link

-- a new link is closed
abbrev pub new_relaying : Plan → Times → Relaying
new_relaying plan times = record { master = master.new_state plan times; progress = None }

-- an opening forgets the control in progress
abbrev pub opened : Relaying → Relaying
opened r = record { master = master.opened r.master; progress = None }

-- so does a hang-up, and a restart
abbrev pub hung_up : Relaying → Relaying
hung_up r = record { master = master.closed r.master; progress = None }

-- where the response timer ends the master closes, and the control stays in progress until the next opening
abbrev pub ticked : Relaying → ℕ → Relaying
ticked r now = record r { master = master.ticked r.master now }

-- a task of somebody else was asked, or refused
abbrev pub asking : Relaying → ℕ → Task → Relaying
asking r now task = record r { master = asked r.master now task }

-- a fragment was taken
abbrev pub received : Relaying → Taking → Relaying
received r t = record { master = t.state; progress = progress_heard r.progress t.outcome }

-- ---- a step of relaying

pub data Step : Type 0 where
  Waits : Step
  Selects : (id : ℕ) (command : Command) → Step
  Operates : (id : ℕ) (command : Command) → Step
  Finishes : (id status : ℕ) → Step

-- of a control in progress: what became of it is told to the book; it is operated while its select stands at the
-- master, and else selected again
abbrev pub step_of_progress : Option Command → Progress → Stage → Step
step_of_progress selected p (Known status) = Finishes p.id status
step_of_progress selected p Selected = if is_selected selected p.command then Operates p.id p.command else Selects p.id p.command
step_of_progress selected p Selecting = Selects p.id p.command
step_of_progress selected p Operating = Waits

-- of a pending control
abbrev pub step_of_entry : Option Entry → Step
step_of_entry None = Waits
step_of_entry (Some entry) = Selects entry.id entry.command

-- where none is in progress, the pending one of the least id comes
abbrev pub step_by : Option Progress → Option Command → List Entry → ℕ → Step
step_by (Some p) selected entries target = step_of_progress selected p p.stage
step_by None selected entries target = step_of_entry (next_of entries target)

-- a closed master, and one that awaits a response, waits
abbrev pub step_of : Relaying → List Entry → ℕ → Step
step_of r entries target = if is_idle r.master then step_by r.progress r.master.selected entries target else Waits

-- ---- what the step makes of the link and of the book

abbrev pub sending : Relaying → ℕ → Task → Progress → Relaying
sending r now task p = record { master = asked r.master now task; progress = Some p }

abbrev pub relaying_after : Relaying → ℕ → Step → Relaying
relaying_after r now Waits = r
relaying_after r now (Selects id command) =
    sending r now (Select command) (record { id = id; command = command; stage = Selecting })
relaying_after r now (Operates id command) =
    sending r now (Operate command) (record { id = id; command = command; stage = Operating })
relaying_after r now (Finishes id status) = record r { progress = None }

abbrev pub ledger_after : Ledger → Step → Ledger
ledger_after book Waits = book
ledger_after book (Selects id command) = book
ledger_after book (Operates id command) = spent book id
ledger_after book (Finishes id status) = finished book id status
