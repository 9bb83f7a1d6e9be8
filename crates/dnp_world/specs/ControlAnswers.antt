-- Definition: how the request of a command is answered, and how its answer is heard (IEEE Std 1815-2012, application layer: SELECT
-- and OPERATE, responses that repeat the objects of their request with a status put in, unsolicited responses).
use Rattle.std.specs.Prelude.{◌≡◌, ℕ, ◌<◌, ◌≤◌, ◌==◌, true, false, if◌then◌else◌, List, [], ◌∷◌, ◌++◌, All, Some, None, IfSome, Ok}
use Rattle.dnp_appfragment.specs.Fragments.{Answered, confirmation, request_octets}
use Rattle.dnp_appfragment.specs.Meaning.{response_at}
use Rattle.dnp_appfragment.specs.Written.{order}
use Rattle.dnp_appfragment.specs.declared.function.Function.TheVariants as function
use Rattle.dnp_master.specs.Calls.{Taking}
use Rattle.dnp_master.specs.Outcomes.{selected_by}
use Rattle.dnp_master.specs.State as master
use Rattle.dnp_master.specs.declared.outcome.Echo.TheVariants as echo
use Rattle.dnp_master.specs.declared.outcome.Outcome.TheVariants as outcome
use Rattle.dnp_master.specs.declared.request.OpenRequest.{OpenRequest}
use Rattle.dnp_master.specs.declared.task.Task.{Task}
use Rattle.dnp_objects.specs.Status.{success}
use Rattle.dnp_objects.specs.declared.command.Command.{Command}
use Rattle.dnp_controls.specs.Panel.{Panel}
use Rattle.dnp_outstation.specs.Connection.{is_last_request}
use Rattle.dnp_outstation.specs.State.{Core, State, Step, holds_read}
use Rattle.dnp_world.specs.Octets.{after, uns_in}

-- ---- the outstation

-- it is open, was asked these octets last, and holds no READ; the number of its next unsolicited response has four bits
pub record WasAsked (octets : List ℕ) (c : Core) : Type 0 where
  pub is_open : c.is_open ≡ true
  pub request : c.session.request ≡ octets
  pub holds_none : holds_read c.session.last ≡ false
  pub number : c.session.next < 16

-- it is open and holds no READ, and these octets are another request than its last one; the number of its next unsolicited response has
-- four bits
pub record IsNewTo (octets : List ℕ) (c : Core) : Type 0 where
  pub is_open : c.is_open ≡ true
  pub other : is_last_request c.session octets ≡ false
  pub holds_none : holds_read c.session.last ≡ false
  pub number : c.session.next < 16

-- it is open, these octets are another request than its last one, and its outputs may carry out a request of one command, for which
-- they have a status
pub record CanAnswer (octets : List ℕ) (command : Command) (s : State) (o : Panel) : Type 0 where
  pub is_open : s.core.is_open ≡ true
  pub number : s.core.session.next < 16
  pub other : is_last_request s.core.session octets ≡ false
  pub some : 1 ≤ o.most
  pub check : o.check command < 128

-- the fragment is a whole response with this number, which repeats the command with a status and asks for no confirm
pub record Repeats (command : Command) (seq status : ℕ) (fragment : List ℕ) : Type 0 where
  pub answered : Answered
  pub read : response_at fragment ≡ Ok answered
  pub control : answered.control ≡ record { fir = true; fin = true; con = false; uns = false; seq = seq }
  pub function_is : answered.function ≡ function.Response
  pub headers : answered.headers ≡ order command status ∷ []
  pub low : status < 128

-- unsolicited responses, by the bit UNS
abbrev pub AreReports : List (List ℕ) → Type 0
AreReports fragments = All (λ fragment. uns_in fragment ≡ true) fragments

-- a call for the request of a command sends its answer, and after it at most reports; these commands were performed
pub record Answers (command : Command) (seq status : ℕ) (octets : List ℕ) (before performs : List Command) (step : Step) : Type 0 where
  pub response : List ℕ
  pub reports : List (List ℕ)
  pub repeats : Repeats command seq status response
  pub are_reports : AreReports reports
  pub sends : step.does.send ≡ response ∷ reports
  pub performed : step.state.performed ≡ before ++ performs
  pub asked : WasAsked octets step.state.core

-- a call that leaves the last request alone performs nothing, and sends at most reports
pub record LeavesRequest (octets : List ℕ) (before : List Command) (step : Step) : Type 0 where
  pub are_reports : AreReports step.does.send
  pub performed : step.state.performed ≡ before
  pub asked : WasAsked octets step.state.core

-- what an OPERATE performs that was answered so
abbrev pub operated_by : ℕ → Command → List Command
operated_by status command = if status == success then command ∷ [] else []

-- ---- the master

-- it is open, and of the response to this task nothing came so far
pub record Awaits (task : Task) (s : master.State) : Type 0 where
  pub is_open : s.is_open ≡ true
  pub number : s.seq < 16
  pub request : OpenRequest
  pub there : s.request ≡ Some request
  pub task_is : request.task ≡ task
  pub new : request.has_begun ≡ false
  pub nothing : request.echo ≡ echo.Nothing

-- the response of this status was taken: the master is idle again, and knows what became of its task
pub record HearsStatus (task : Task) (status : ℕ) (s : master.State) (t : Taking) : Type 0 where
  pub state : t.state ≡ record s { seq = after s.seq; request = None; selected = selected_by task (echo.Same status) }
  pub outcome_is : t.outcome ≡ Some (outcome.Control status)
  pub confirm : t.confirm ≡ None

-- the octets are the confirm of an unsolicited response
abbrev pub ConfirmsReport : List ℕ → Type 0
ConfirmsReport octets = (seq : ℕ) × (seq < 16) × (octets ≡ request_octets (confirmation seq true))

-- an unsolicited response was taken, or refused: the master is as it was
pub record PassesReport (s : master.State) (t : Taking) : Type 0 where
  pub state : t.state ≡ s
  pub outcome : t.outcome ≡ None
  pub confirm : IfSome t.confirm ConfirmsReport
