-- What asks, and what comes, make of the command that stands selected.
use Rattle.std.proofs.Common.{◌≡◌, ℕ, Bool, true, false, cond, List, refl, ap, ◌∙◌, inl, inr, arith, eqb}
use Rattle.std.specs.Prelude.{Option, Some, None, Result, Ok, Err, IfSome, is_some, not}
use Rattle.std.proofs.lemmas.Bool.Decides.{nat_tests}
use Rattle.dnp_appfragment.specs.Control.{ControlBits}
use Rattle.dnp_appfragment.specs.Fragments.{Answered, request_octets}
use Rattle.dnp_appfragment.specs.declared.iin.Iin.{Iin}
use Rattle.dnp_master.specs.Calls as calls
use Rattle.dnp_master.specs.Outcomes.{command_for, echo_after, outcome_for, selected_by}
use Rattle.dnp_master.specs.Requests.{is_good, request_for}
use Rattle.dnp_master.specs.State.{State}
use Rattle.dnp_master.specs.declared.fault.AskFault.{AskFault}
use Rattle.dnp_master.specs.declared.outcome.Echo.{Echo}
use Rattle.dnp_master.specs.declared.outcome.Echo.TheVariants as echo
use Rattle.dnp_master.specs.declared.outcome.Outcome.TheVariants.{Control}
use Rattle.dnp_master.specs.declared.request.Case.{Case}
use Rattle.dnp_master.specs.declared.request.Case.TheVariants.{Unheeded, Awaited, Report}
use Rattle.dnp_master.specs.declared.request.OpenRequest.{OpenRequest}
use Rattle.dnp_master.specs.declared.task.Task.{Task}
use Rattle.dnp_master.specs.declared.task.Task.TheVariants.{Poll, ClearRestart, Enable, Disable, WriteTime, Select, Operate}
use Rattle.dnp_objects.specs.Counts.{IsEqualityTest}
use Rattle.dnp_objects.specs.Equality.{command_eq}
use Rattle.dnp_objects.specs.declared.command.Command.{Command}
use Rattle.dnp_master.specs.Selecting.{OperatesSelected, SelectsBySuccess, StandsSelected}

-- ---- asking

-- what is asked as an OPERATE stood selected
fits : IsEqualityTest command_eq → (o : Bool) (request : Option OpenRequest) (selected : Option Command) (command : Command)
    (rest : Result (List ℕ) AskFault) (octets : List ℕ)
    → cond (not o) (Err AskFault.Closed) (cond (is_some request) (Err AskFault.Busy)
    (cond (not (calls.is_selected selected command)) (Err AskFault.NotSelected) rest)) ≡ Ok octets
    → selected ≡ Some command
fits tests false request selected command rest octets e = absurd (cc)
fits tests true (Some r) selected command rest octets e = absurd (cc)
fits tests true None None command rest octets e = absurd (cc)
fits tests true None (Some other) command rest octets e = by (command_eq other command) refl e
  where
    by : (b : Bool) → command_eq other command ≡ b → cond (not b) (Err AskFault.NotSelected) rest ≡ Ok octets → Some other ≡ Some command
    by true is e = ap Some ((tests.decides other command).0 is)
    by false is e = absurd (cc)

pub operates_selected : IsEqualityTest command_eq → OperatesSelected
operates_selected tests s command octets asked =
    fits tests s.is_open s.request s.selected command
    (cond (not (is_good (Operate command))) (Err AskFault.BadTask) (Ok (request_octets (request_for s.seq (Operate command))))) octets asked

-- ---- what comes

-- a fragment that is awaited answers the request that is open
open_of : (report solicited : Bool) (seq : ℕ) (request : Option OpenRequest) (control : ControlBits) (r : OpenRequest)
    → cond report Report (cond solicited (calls.case_by seq request control) Unheeded) ≡ Awaited r → request ≡ Some r
open_of true solicited seq request control r e = absurd (cc)
open_of false false seq request control r e = absurd (cc)
open_of false true seq None control r e = absurd (cc)
open_of false true seq (Some q) control r e = by (calls.is_next seq q control) e
  where
    by : (b : Bool) → cond b (Awaited q) Unheeded ≡ Awaited r → Some q ≡ Some r
    by true e = cc
    by false e = absurd (cc)

-- a command stands selected after the answer SUCCESS to its select
selects : (task : Task) (e : Echo) (iin : Iin) (command : Command) → selected_by task e ≡ Some command
    → (outcome_for (command_for task) e iin ≡ Control 0) × (task ≡ Select command)
selects (Select c) (echo.Same status) iin command is = by (eqb status 0) refl is
  where
    zero : eqb status 0 ≡ true → status ≡ 0
    zero is = grind (arith, nat_tests)

    by : (b : Bool) → eqb status 0 ≡ b → cond b (Some c) None ≡ Some command → (Control status ≡ Control 0) × (Select c ≡ Select command)
    by true same is = (ap Control (zero same), cc)
    by false same is = absurd (cc)
selects (Select c) echo.Nothing iin command is = absurd (cc)
selects (Select c) echo.Other iin command is = absurd (cc)
selects (Poll classes) e iin command is = absurd (cc)
selects ClearRestart e iin command is = absurd (cc)
selects (Enable classes) e iin command is = absurd (cc)
selects (Disable classes) e iin command is = absurd (cc)
selects (WriteTime time) e iin command is = absurd (cc)
selects (Operate c) e iin command is = absurd (cc)

awaited : (s : State) (now : ℕ) (a : Answered) (command : Command) (r : OpenRequest) → s.request ≡ Some r → (fin : Bool)
    → (cond fin (calls.ended s r a) (calls.going_on s now r a)).state.selected ≡ Some command
    → StandsSelected s (cond fin (calls.ended s r a) (calls.going_on s now r a)).outcome command
awaited s now a command r request true is =
    let found = selects r.task (echo_after (command_for r.task) r.echo a.headers) a.iin command is in
    inr (ap Some found.0, task_of s.request request)
  where
    task_of : (other : Option OpenRequest) → other ≡ Some r → IfSome other (λ asked. asked.task ≡ Select command)
    task_of None same = absurd (cc)
    task_of (Some q) same = ap (λ (t : OpenRequest). t.task) (inner same)
        ∙ (selects r.task (echo_after (command_for r.task) r.echo a.headers) a.iin command is).1
      where
        inner : Some q ≡ Some r → q ≡ r
        inner same = cc
awaited s now a command r request false is = inl is

followed : (s : State) (now : ℕ) (a : Answered) (command : Command) (o : Bool) (k : Case) → ((r : OpenRequest) → k ≡ Awaited r → s.request ≡ Some r)
    → (cond o (calls.taken_as k s now a) (calls.unheeded s)).state.selected ≡ Some command
    → StandsSelected s (cond o (calls.taken_as k s now a) (calls.unheeded s)).outcome command
followed s now a command false k of is = inl is
followed s now a command true Unheeded of is = inl is
followed s now a command true Report of is = inl is
followed s now a command true (Awaited r) of is = awaited s now a command r (of r refl) a.control.fin is

pub selects_by_success : SelectsBySuccess
selects_by_success s now a command is =
    followed s now a command s.is_open (calls.case_of s a)
    (λ r e. open_of (calls.is_report a.function a.control) (calls.is_solicited a.function a.control) s.seq s.request a.control r e) is
