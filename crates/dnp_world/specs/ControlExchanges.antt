-- Definition: what is sent over a link in whole fragments, from either end to the other, while a control goes over it (IEEE Std
-- 1815-2012, application layer: requests, responses, confirms).
use Rattle.std.specs.Prelude.{◌≡◌, ◌≢◌, ℕ, ◌<◌, ◌≤◌, true, false, List, [], ◌∷◌, ◌++◌, All, Option, Some, option_to_list, Result, Ok, Err}
use Rattle.std.specs.Option.{option_and_then}
use Rattle.dnp_concentrator.specs.Relaying as relaying
use Rattle.dnp_concentrator.specs.Relaying.{Relaying, Step}
use Rattle.dnp_appfragment.specs.Fragments.{request_octets}
use Rattle.dnp_concentrator.specs.declared.progress.Stage.TheVariants as stage
use Rattle.dnp_controls.specs.Book.{Ledger}
use Rattle.dnp_controls.specs.declared.book.Entry.{Entry}
use Rattle.dnp_controls.specs.Panel.{Panel}
use Rattle.dnp_master.specs.Calls.{Taking, receive_of}
use Rattle.dnp_master.specs.Requests.{request_for}
use Rattle.dnp_master.specs.State.{is_idle}
use Rattle.dnp_master.specs.declared.task.Task.TheVariants as task
use Rattle.dnp_master.specs.declared.fault.MasterFault.{MasterFault}
use Rattle.dnp_objects.specs.declared.command.Command.{Command}
use Rattle.dnp_outstation.specs.Calls.{connection_after, performed_in}
use Rattle.dnp_objects.specs.Status.{success}
use Rattle.dnp_outstation.specs.Connection.{is_last_request}
use Rattle.dnp_outstation.specs.State.{State}
use Rattle.dnp_world.specs.CommandWidths.{HasWidths}
use Rattle.dnp_world.specs.ControlAnswers.{ConfirmsReport, IsNewTo, WasAsked, operated_by}
use Rattle.dnp_world.specs.Controls.{found_in, status_in}
use Rattle.dnp_world.specs.SystemEvents.{requests_of}

-- outputs that may carry out a request of one command, and have this status for the command
pub record ChecksAs (command : Command) (status : ℕ) (outputs : Panel) : Type 0 where
  pub some : 1 ≤ outputs.most
  pub check : outputs.check command ≡ status

-- Fragments come to an outstation one after the other, each over outputs of this kind. It sends these fragments, and performs these
-- commands; how it stands between them is its core and its lanes.
abbrev pub AnswersAll : ℕ → (Panel → Type 0) → List (List ℕ) → State → State → List (List ℕ) → List Command → Type 0
AnswersAll now IsOutputs [] old new sent commands = (new ≡ old) × (sent ≡ []) × (commands ≡ [])
AnswersAll now IsOutputs (fragment ∷ fragments) old new sent commands =
    (outputs : Panel) × (next : State) × (later : List (List ℕ)) × (more : List Command) × IsOutputs outputs
    × (next.core ≡ (connection_after old outputs now fragment).state.core)
    × (sent ≡ (connection_after old outputs now fragment).does.send ++ later)
    × (commands ≡ performed_in old.core outputs now fragment ++ more)
    × AnswersAll now IsOutputs fragments next new later more

-- what a master makes of a fragment, and what it confirms; what it refuses for itself is lost
abbrev pub HearsAnswer : Result Taking MasterFault → Relaying → Relaying → List (List ℕ) → Type 0
HearsAnswer (Ok t) old new confirms = (new ≡ relaying.received old t) × (confirms ≡ option_to_list t.confirm)
HearsAnswer (Err fault) old new confirms = (new ≡ old) × (confirms ≡ [])

-- fragments come to a master one after the other
abbrev pub HearsAnswers : ℕ → List (List ℕ) → Relaying → Relaying → List (List ℕ) → Type 0
HearsAnswers now [] old new confirms = (new ≡ old) × (confirms ≡ [])
HearsAnswers now (fragment ∷ fragments) old new confirms =
    (next : Relaying) × (first : List (List ℕ)) × (later : List (List ℕ)) × HearsAnswer (receive_of old.master now fragment) old next first
    × (confirms ≡ first ++ later) × HearsAnswers now fragments next new later

-- the two ends of a link: the master with its control in progress and its book, the outstation, and the confirms that are on their way to it
pub record ExchangeEnds : Type 0 where
  pub link : Relaying
  pub book : Ledger
  pub station : State
  pub going : List (List ℕ)

-- the step of relaying over the link, by the book's controls for this target
abbrev pub next_step : ℕ → ExchangeEnds → Step
next_step target ends = relaying.step_of ends.link ends.book.entries target

-- the book once the step was told to it
abbrev pub told_to : ℕ → ExchangeEnds → Ledger
told_to target ends = relaying.ledger_after ends.book (next_step target ends)

-- A step of relaying, and all that comes of it: its request comes to the outstation after what was on its way there, and what the
-- outstation sends comes to the master. These commands were performed.
pub record GoesOver (target now : ℕ) (IsOutputs : Panel → Type 0) (commands : List Command) (old new : ExchangeEnds) : Type 0 where
  pub sent : List (List ℕ)
  pub answered : AnswersAll now IsOutputs (old.going ++ requests_of (next_step target old) old.link.master.seq) old.station new.station sent commands
  pub heard : HearsAnswers now sent (relaying.relaying_after old.link now (next_step target old)) new.link new.going
  pub told : new.book ≡ told_to target old

-- the status with which the book says that the control of this id finished
abbrev pub status_at : Ledger → ℕ → Option ℕ
status_at book id = option_and_then (λ entry. status_in entry.state) (found_in book.entries id)

-- An idle master whose next step is the SELECT of this control, which the book has; and an open outstation that was not asked this very
-- SELECT last. Nothing is on its way.
pub record CanBegin (target : ℕ) (entry : Entry) (ends : ExchangeEnds) : Type 0 where
  pub idle : is_idle ends.link.master ≡ true
  pub number : ends.link.master.seq < 16
  pub selects : next_step target ends ≡ relaying.Selects entry.id entry.command
  pub found : found_in ends.book.entries entry.id ≡ Some entry
  pub widths : HasWidths entry.command
  pub is_open : ends.station.core.is_open ≡ true
  pub reports : ends.station.core.session.next < 16
  pub other : is_last_request ends.station.core.session (request_octets (request_for ends.link.master.seq (task.Select entry.command))) ≡ false
  pub clear : ends.going ≡ []

-- Its SELECT was answered SUCCESS: it is in progress at an idle master, at which its command stands selected, and the book has it; the
-- outstation was not asked this very OPERATE last. At most confirms of unsolicited responses are on their way.
pub record HasSelected (entry : Entry) (ends : ExchangeEnds) : Type 0 where
  pub idle : is_idle ends.link.master ≡ true
  pub number : ends.link.master.seq < 16
  pub progress : ends.link.progress ≡ Some (record { id = entry.id; command = entry.command; stage = stage.Selected })
  pub selected : ends.link.master.selected ≡ Some entry.command
  pub found : found_in ends.book.entries entry.id ≡ Some entry
  pub widths : HasWidths entry.command
  pub new : IsNewTo (request_octets (request_for ends.link.master.seq (task.Operate entry.command))) ends.station.core
  pub confirms : All ConfirmsReport ends.going

-- What a SELECT comes to, where the outputs have this status for its command: it stands selected where that is SUCCESS, with the
-- outstation asked it last, and else the book is told the status next.
pub data SelectComesTo (target check : ℕ) (entry : Entry) (ends : ExchangeEnds) : Type 0 where
  Stands : check ≡ success → (seq : ℕ) → WasAsked (request_octets (request_for seq (task.Select entry.command))) ends.station.core
      → HasSelected entry ends → SelectComesTo target check entry ends
  Refused : check ≢ success → next_step target ends ≡ relaying.Finishes entry.id check
      → status_at (told_to target ends) entry.id ≡ Some check → SelectComesTo target check entry ends

-- What an OPERATE comes to: it was answered with this status, which the book is told next, and performed its command where that is
-- SUCCESS, as the outputs have it for the command then. The outstation was asked it last, and at most confirms of unsolicited responses
-- are on their way.
pub record OperateComesTo (target check : ℕ) (entry : Entry) (commands : List Command) (ends : ExchangeEnds) : Type 0 where
  pub status : ℕ
  pub performs : commands ≡ operated_by status entry.command
  pub checks : status ≡ success → check ≡ success
  pub next : next_step target ends ≡ relaying.Finishes entry.id status
  pub told : status_at (told_to target ends) entry.id ≡ Some status
  pub seq : ℕ
  pub asked : WasAsked (request_octets (request_for seq (task.Operate entry.command))) ends.station.core
  pub confirms : All ConfirmsReport ends.going
