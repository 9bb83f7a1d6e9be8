-- Definition: `ask` and `receive`: a function of the master and of what came, case by case (IEEE Std
-- 1815-2012, application layer: the master's side of a transaction, unsolicited responses, confirmation).
use Rattle.std.specs.Prelude.{ℕ, ◌+◌, nat_lt, Bool, true, false, not, ◌&&◌, ◌==◌, if◌then◌else◌, List, [], length, Option, Some, None, is_some, Result, Ok, Err}
use Rattle.std.specs.Int.{bit_at}
use Rattle.dnp_objects.specs.Equality.{command_eq}
use Rattle.dnp_objects.specs.declared.row.Row.{Row}
use Rattle.dnp_objects.specs.declared.command.Command.{Command}
use Rattle.dnp_appfragment.specs.declared.fault.AppFault.{AppFault}
use Rattle.dnp_appfragment.specs.declared.function.Function.{Function}
use Rattle.dnp_appfragment.specs.declared.function.Function.TheVariants as function
use Rattle.dnp_appfragment.specs.declared.iin.Iin.{Iin}
use Rattle.dnp_appfragment.specs.Control.{ControlBits}
use Rattle.dnp_appfragment.specs.EventRows.{events_in}
use Rattle.dnp_appfragment.specs.Fragments.{Answered, request_octets, confirmation}
use Rattle.dnp_appfragment.specs.Meaning.{response_at}
use Rattle.dnp_pointdb.specs.Plan.{Plan}
use Rattle.dnp_master.specs.declared.actions.Followed.{Followed}
use Rattle.dnp_master.specs.declared.actions.MasterActions.{MasterActions}
use Rattle.dnp_master.specs.declared.fault.AskFault.{AskFault}
use Rattle.dnp_master.specs.declared.fault.AskFault.TheVariants.{Closed, Busy, NotSelected, BadTask}
use Rattle.dnp_master.specs.declared.fault.MasterFault.{MasterFault}
use Rattle.dnp_master.specs.declared.fault.MasterFault.TheVariants.{Malformed, Stranger}
use Rattle.dnp_master.specs.declared.outcome.Echo.TheVariants.{Nothing}
use Rattle.dnp_master.specs.declared.outcome.Outcome.{Outcome}
use Rattle.dnp_master.specs.declared.request.Case.{Case}
use Rattle.dnp_master.specs.declared.request.Case.TheVariants.{Unheeded, Awaited, Report}
use Rattle.dnp_master.specs.declared.request.OpenRequest.{OpenRequest}
use Rattle.dnp_master.specs.declared.task.Task.{Task}
use Rattle.dnp_master.specs.declared.task.Task.TheVariants.{Poll, ClearRestart, Enable, Disable, WriteTime, Select, Operate}
use Rattle.dnp_master.specs.Outcomes.{command_for, echo_after, outcome_for, selected_by}
use Rattle.dnp_master.specs.Requests.{request_for, is_good}
use Rattle.dnp_master.specs.Rows.{statics_in, is_from_plan}
use Rattle.dnp_master.specs.State.{State, deadline, after}

-- ---- asking

-- this command stands selected
abbrev pub is_selected : Option Command → Command → Bool
is_selected None command = false
is_selected (Some selected) command = command_eq selected command

-- an OPERATE is asked after the select of the same command alone
abbrev pub may_follow : Option Command → Task → Bool
may_follow selected (Operate command) = is_selected selected command
may_follow selected (Poll classes) = true
may_follow selected ClearRestart = true
may_follow selected (Enable classes) = true
may_follow selected (Disable classes) = true
may_follow selected (WriteTime time) = true
may_follow selected (Select command) = true

-- the request's octets, or the first cause to refuse
abbrev pub ask_answer : State → Task → Result (List ℕ) AskFault
ask_answer s task =
    if not s.is_open then Err Closed
    else (if is_some s.request then Err Busy
    else (if not (may_follow s.selected task) then Err NotSelected
    else (if not (is_good task) then Err BadTask
    else Ok (request_octets (request_for s.seq task)))))

-- the request is open, and its response timer runs
abbrev pub asking : State → ℕ → Task → State
asking s now task = record s {
  request = Some (record { task = task; has_begun = false; echo = Nothing; ends = deadline now s.times.response_ms });
  selected = None;
}

-- a refused task changes nothing
abbrev pub asked_by : State → ℕ → Task → Result (List ℕ) AskFault → State
asked_by s now task (Ok octets) = asking s now task
asked_by s now task (Err fault) = s

abbrev pub asked : State → ℕ → Task → State
asked s now task = asked_by s now task (ask_answer s task)

-- ---- what a response is to the master

-- a response that nobody asked for, whole in one fragment
abbrev pub is_report : Function → ControlBits → Bool
is_report function.UnsolicitedResponse control = control.uns && (control.fir && control.fin)
is_report _ control = false

-- a fragment of a response to a request
abbrev pub is_solicited : Function → ControlBits → Bool
is_solicited function.Response control = not control.uns
is_solicited _ control = false

-- it has the awaited sequence number, and FIR exactly if it is the first fragment
abbrev pub is_next : ℕ → OpenRequest → ControlBits → Bool
is_next seq request control = (control.seq == seq) && (if request.has_begun then not control.fir else control.fir)

abbrev pub case_by : ℕ → Option OpenRequest → ControlBits → Case
case_by seq None control = Unheeded
case_by seq (Some request) control = if is_next seq request control then Awaited request else Unheeded

abbrev pub case_of : State → Answered → Case
case_of s answered =
    if is_report answered.function answered.control then Report
    else (if is_solicited answered.function answered.control then case_by s.seq s.request answered.control else Unheeded)

-- ---- what a fragment makes of the master, where the sink takes its rows

pub record Taking : Type 0 where
  pub state : State
  -- the rows for the sink: events, and beside them present values
  pub events : List Row
  pub statics : List Row
  -- what is sent: the fragment's confirm
  pub confirm : Option (List ℕ)
  pub outcome : Option Outcome
  -- DEVICE_RESTART is indicated
  pub restart : Bool

-- nothing happens
abbrev pub unheeded : State → Taking
unheeded s = record { state = s; events = []; statics = []; confirm = None; outcome = None; restart = false }

-- CON asks for the confirm of this sequence number, and of the reports with UNS
abbrev pub confirm_for : ControlBits → Option (List ℕ)
confirm_for control = if control.con then Some (request_octets (confirmation control.seq control.uns)) else None

abbrev pub indicates_restart : Iin → Bool
indicates_restart iin = bit_at iin.one 7 == 1

-- the fragment's rows, its confirm and its indication
abbrev pub taking : Answered → State → Plan → Option Outcome → Taking
taking answered state plan outcome = record {
  state = state;
  events = events_in answered.headers;
  statics = statics_in plan answered.headers;
  confirm = confirm_for answered.control;
  outcome = outcome;
  restart = indicates_restart answered.iin;
}

-- a report leaves the request as it is
abbrev pub report_taken : State → Answered → Taking
report_taken s answered = taking answered s s.plan None

-- after the last fragment the master is idle, and the task has its outcome
abbrev pub ended : State → OpenRequest → Answered → Taking
ended s request answered =
    let echo = echo_after (command_for request.task) request.echo answered.headers in
    taking answered (record s { seq = after s.seq; request = None; selected = selected_by request.task echo }) s.plan
    (Some (outcome_for (command_for request.task) echo answered.iin))

-- after another fragment the next one is awaited, and the response timer starts again
abbrev pub going_on : State → ℕ → OpenRequest → Answered → Taking
going_on s now request answered =
    let echo = echo_after (command_for request.task) request.echo answered.headers in
    taking answered
    (record s {
      seq = after s.seq;
      request = Some (record { task = request.task; has_begun = true; echo = echo; ends = deadline now s.times.response_ms });
    })
    s.plan None

abbrev pub taken_as : Case → State → ℕ → Answered → Taking
taken_as Unheeded s now answered = unheeded s
taken_as Report s now answered = report_taken s answered
taken_as (Awaited request) s now answered = if answered.control.fin then ended s request answered else going_on s now request answered

-- a fragment that is taken may bring no event that the plan has no class for
abbrev pub if_from_plan : Plan → Answered → Taking → Result Taking MasterFault
if_from_plan plan answered t = if is_from_plan plan answered.headers then Ok t else Err Stranger

abbrev pub checked : Case → Plan → Answered → Taking → Result Taking MasterFault
checked Unheeded plan answered t = Ok t
checked Report plan answered t = if_from_plan plan answered t
checked (Awaited request) plan answered t = if_from_plan plan answered t

abbrev pub response_of : State → ℕ → Answered → Result Taking MasterFault
response_of s now answered =
    let case = case_of s answered in
    checked case s.plan answered (taken_as case s now answered)

abbrev pub heard : State → ℕ → Result Answered AppFault → Result Taking MasterFault
heard s now (Err fault) = Err Malformed
heard s now (Ok answered) = response_of s now answered

-- a closed master looks at nothing
unfoldable pub receive_of : State → ℕ → List ℕ → Result Taking MasterFault
receive_of s now octets = if s.is_open then heard s now (response_at octets) else Ok (unheeded s)

-- ---- the same, where the caller gives the rows on, whatever the plan says of them

abbrev pub is_heeded : Case → Bool
is_heeded Unheeded = false
is_heeded Report = true
is_heeded (Awaited request) = true

-- it is the next fragment of the response that is awaited, or a report
abbrev pub is_awaited : State → Answered → Bool
is_awaited s answered = s.is_open && is_heeded (case_of s answered)

-- a closed master takes nothing
abbrev pub follow_of : State → ℕ → Answered → Taking
follow_of s now answered = if s.is_open then taken_as (case_of s answered) s now answered else unheeded s

-- what the call answers
abbrev pub followed_of : Taking → Followed
followed_of t = record { send = t.confirm; outcome = t.outcome }

-- ---- what the call answers

-- the rows are given to the sink, if there are any
abbrev pub has_rows : Taking → Bool
has_rows t = nat_lt 0 (length t.events + length t.statics)

-- these rows were dropped for the events
abbrev pub actions_of : Taking → List Row → MasterActions
actions_of t dropped =
    record { send = t.confirm; taken = length t.events; dropped = dropped; outcome = t.outcome; restart = t.restart }
