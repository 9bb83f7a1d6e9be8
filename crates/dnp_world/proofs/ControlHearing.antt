-- What a master makes of the answer to its command, and of an unsolicited response.
use Rattle.std.proofs.Common.{◌≡◌, ℕ, ◌<◌, Bool, true, false, if◌then◌else◌, List, [], ◌∷◌, Some, None, Result, Ok, Err, refl, ap, ◌∙◌, subst, arith, eq-eqb}
use Rattle.std.specs.Prelude.{IfSome}
use Rattle.dnp_objects.specs.Equality.{command_eq}
use Rattle.dnp_objects.specs.declared.command.Command.{Command}
use Rattle.dnp_objects.specs.declared.command.Command.TheVariants.{Block, Set16, Set32}
use Rattle.dnp_appfragment.specs.Control.{ControlBits}
use Rattle.dnp_appfragment.specs.Fragments.{Answered, confirmation, request_octets}
use Rattle.dnp_appfragment.specs.Headers.{Head}
use Rattle.dnp_appfragment.specs.Meaning.{command_in, response_at}
use Rattle.dnp_appfragment.specs.Written.{order}
use Rattle.dnp_appfragment.specs.declared.fault.AppFault.{AppFault}
use Rattle.dnp_appfragment.specs.declared.function.Function.{Function}
use Rattle.dnp_appfragment.specs.declared.function.Function.TheVariants as function
use Rattle.dnp_appfragment.specs.declared.iin.Iin.{Iin}
use Rattle.dnp_master.specs.Calls.{Taking, confirm_for, ended, heard, is_report, is_solicited, receive_of, report_taken, response_of, unheeded}
use Rattle.dnp_master.specs.Outcomes.{command_for, echo_after}
use Rattle.dnp_master.specs.Rows.{is_from_plan}
use Rattle.dnp_master.specs.State.{State}
use Rattle.dnp_master.specs.declared.fault.MasterFault.{MasterFault}
use Rattle.dnp_master.specs.declared.fault.MasterFault.TheVariants.{Stranger}
use Rattle.dnp_master.specs.declared.outcome.Echo.{Echo}
use Rattle.dnp_master.specs.declared.outcome.Echo.TheVariants as echo
use Rattle.dnp_master.specs.declared.request.OpenRequest.{OpenRequest}
use Rattle.dnp_master.specs.declared.task.Task.{Task}
use Rattle.dnp_pointdb.specs.Plan.{Plan}
use Rattle.dnp_world.specs.CommandWidths.{HasWidths}
use Rattle.dnp_world.specs.ControlAnswers.{Awaits, ConfirmsReport, HearsStatus, PassesReport, Repeats}
use Rattle.dnp_world.specs.Octets.{control_in, uns_in}
use Rattle.dnp_world.proofs.CommandRequests.{ReadLaws, in_range, index_low}
use Rattle.dnp_world.proofs.ControlAnswers.{answer_of, whole_bits}
use Rattle.dnp_world.proofs.OutstationFragments.{said_control}

-- ---- the answer to a command

-- commands are the same as themselves
abbrev pub SameLaw : Type 0
SameLaw = (command : Command) → command_eq command command ≡ true

pub status_command : ReadLaws → (command : Command) (status : ℕ) → HasWidths command → status < 128
    → command_in (order command status) 0 ≡ Some (command, status)
status_command laws command status h low =
    laws.is_said (order command status) 0 (command, status)
    (laws.is_read (order command status) (_ ∷ []) 0 command status (laws.holds command status (index_low command h)) (in_range command h) low refl)

order_from_plan : (plan : Plan) (command : Command) (status : ℕ) → is_from_plan plan (order command status ∷ []) ≡ true
order_from_plan plan (Block index code count on off) status = refl
order_from_plan plan (Set16 index value) status = refl
order_from_plan plan (Set32 index value) status = refl

-- a response by its parts
answered_same : (control control' : ControlBits) (f f' : Function) (iin : Iin) (headers headers' : List Head) → control ≡ control' → f ≡ f' → headers ≡ headers'
    → (let a : Answered = record { control = control; function = f; iin = iin; headers = headers } in a)
    ≡ record { control = control'; function = f'; iin = iin; headers = headers' }
answered_same control control' f f' iin headers headers' e g h = cc

echo_is : ReadLaws → SameLaw → (task : Task) (first : Echo) (command : Command) (status : ℕ) → command_for task ≡ Some command → first ≡ echo.Nothing
    → HasWidths command → status < 128 → echo_after (command_for task) first (order command status ∷ []) ≡ echo.Same status
echo_is laws same task first command status is_for nothing widths low =
    rw (is_for, nothing) (rw (status_command laws command status widths low)
    (ap (λ (b : Bool). if b then echo.Same status else echo.Other) (same command)))

-- the taking, by what the response repeats
status_heard : (s : State) (request : OpenRequest) (a : Answered) (command : Command) (status : ℕ) → command_for request.task ≡ Some command
    → echo_after (command_for request.task) request.echo a.headers ≡ echo.Same status → a.control.con ≡ false
    → HearsStatus request.task status s (ended s request a)
status_heard s request a command status is_for repeats quiet = record {
  state = rw repeats refl;
  outcome_is = rw (is_for, rw is_for at repeats) refl;
  confirm = rw quiet refl;
}

answer_taken : (s : State) (now : ℕ) (request : OpenRequest) (iin : Iin) (command : Command) (status : ℕ) → s.request ≡ Some request
    → request.has_begun ≡ false
    → (let a : Answered = answer_of s.seq iin (order command status ∷ []) in response_of s now a ≡ Ok (ended s request a))
answer_taken s now request iin command status there new =
    rw (there, eq-eqb s.seq s.seq refl, new)
    (ap (λ (b : Bool). if b then Ok (ended s request (answer_of s.seq iin (order command status ∷ []))) else Err Stranger)
    (order_from_plan s.plan command status))

pub record Heard (task : Task) (status now : ℕ) (s : State) (fragment : List ℕ) : Type 0 where
  pub taking : Taking
  pub takes : receive_of s now fragment ≡ Ok taking
  pub hears : HearsStatus task status s taking

pub answer_heard : ReadLaws → SameLaw → (task : Task) (command : Command) (status now : ℕ) (s : State) (fragment : List ℕ) → command_for task ≡ Some command
    → HasWidths command → Awaits task s → Repeats command s.seq status fragment → Heard task status now s fragment
unfolding receive_of
answer_heard laws same task command status now s fragment is_for widths awaits repeats =
    let request : OpenRequest = awaits.request in
    let a : Answered = answer_of s.seq repeats.answered.iin (order command status ∷ []) in
    let is_for' : command_for request.task ≡ Some command = ap command_for awaits.task_is ∙ is_for in
    let read : response_at fragment ≡ Ok a =
    repeats.read
    ∙ ap Ok (answered_same repeats.answered.control (whole_bits false s.seq) repeats.answered.function function.Response repeats.answered.iin
    repeats.answered.headers (order command status ∷ []) repeats.control repeats.function_is repeats.headers) in
    record {
      taking = ended s request a;
      takes = ap (λ (b : Bool). if b then heard s now (response_at fragment) else Ok (unheeded s)) awaits.is_open
          ∙ ap (heard s now) read
          ∙ answer_taken s now request repeats.answered.iin command status awaits.there awaits.new;
      hears = subst (λ (t : Task). HearsStatus t status s (ended s request a)) awaits.task_is
          (status_heard s request a command status is_for'
          (echo_is laws same request.task request.echo command status is_for' awaits.nothing widths repeats.low) refl);
    }

-- ---- an unsolicited response

not_solicited : (f : Function) (control : ControlBits) → control.uns ≡ true → is_solicited f control ≡ false
not_solicited function.Response control uns = rw uns refl
not_solicited f control uns = refl

confirms_report : (control : ControlBits) → control.uns ≡ true → control.seq < 16 → IfSome (confirm_for control) ConfirmsReport
confirms_report control uns low = by control.con
  where
    by : (b : Bool) → IfSome (if b then Some (request_octets (confirmation control.seq control.uns)) else None) ConfirmsReport
    by true = (control.seq, low, ap (λ (u : Bool). request_octets (confirmation control.seq u)) uns)
    by false = tt

same_taking : (t u : Taking) → (let r : Result Taking MasterFault = Ok t in r) ≡ Ok u → t ≡ u
same_taking t u e = cc

nothing_passes : (s : State) (t : Taking) → unheeded s ≡ t → PassesReport s t
nothing_passes s t e = subst (PassesReport s) e (record { state = refl; outcome = refl; confirm = tt })

report_passes : (s : State) (a : Answered) (t : Taking) → a.control.uns ≡ true → a.control.seq < 16 → report_taken s a ≡ t → PassesReport s t
report_passes s a t uns low e = subst (PassesReport s) e (record { state = refl; outcome = refl; confirm = confirms_report a.control uns low })

answered_passes : (s : State) (now : ℕ) (a : Answered) (t : Taking) → a.control.uns ≡ true → a.control.seq < 16 → response_of s now a ≡ Ok t
    → PassesReport s t
answered_passes s now a t uns low e = by (is_report a.function a.control) refl
  where
    from_plan : (b : Bool) → (if b then Ok (report_taken s a) else Err Stranger) ≡ Ok t → PassesReport s t
    from_plan true is = report_passes s a t uns low (same_taking (report_taken s a) t is)
    from_plan false is = absurd (cc)

    by : (b : Bool) → is_report a.function a.control ≡ b → PassesReport s t
    by true reports = from_plan (is_from_plan s.plan a.headers) (rw reports at e)
    by false reports = nothing_passes s t (same_taking (unheeded s) t (rw (reports, not_solicited a.function a.control uns) at e))

pub report_heard : (s : State) (now : ℕ) (fragment : List ℕ) (t : Taking) → uns_in fragment ≡ true → receive_of s now fragment ≡ Ok t → PassesReport s t
unfolding receive_of uns_in
report_heard s now fragment t uns takes = by s.is_open takes
  where
    of : (r : Result Answered AppFault) → response_at fragment ≡ r → heard s now r ≡ Ok t → PassesReport s t
    of (Err fault) read is = absurd (cc)
    of (Ok a) read is =
        let control : a.control ≡ control_in fragment = said_control fragment a read in
        answered_passes s now a t (ap (λ (c : ControlBits). c.uns) control ∙ uns) (rw control (omega arith)) is

    by : (b : Bool) → (if b then heard s now (response_at fragment) else Ok (unheeded s)) ≡ Ok t → PassesReport s t
    by true is = of (response_at fragment) refl is
    by false is = nothing_passes s t (same_taking (unheeded s) t is)
