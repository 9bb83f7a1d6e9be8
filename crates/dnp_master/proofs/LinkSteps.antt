-- What a master makes of octets that come, as the law of a link sees it.
use Rattle.std.proofs.Common.{◌≡◌, ℕ, zero, suc, ◌<◌, ◌^◌, Bool, true, false, not, cond, ◌&&◌, ◌⊎◌, inl, inr, List, [], ◌∷◌, Option, Some, None, Result, Ok, Err, IfOk, refl, sym, ◌∙◌, ap, arith}
use Rattle.std.specs.Prelude.{is_some}
use Rattle.std.specs.List.{All}
use Rattle.std.proofs.lemmas.Bool.{false≢true}
use Rattle.std.proofs.lemmas.Bool.Decides.{nat_tests}
use Rattle.dnp_appfragment.specs.declared.fault.AppFault.{AppFault}
use Rattle.dnp_appfragment.specs.declared.function.Function.{Function}
use Rattle.dnp_appfragment.specs.declared.function.Function.TheVariants as function
use Rattle.dnp_appfragment.specs.declared.table.Form.TheVariants as form
use Rattle.dnp_appfragment.specs.Control.{ControlBits}
use Rattle.dnp_appfragment.specs.EventRows.{answered_events}
use Rattle.dnp_appfragment.specs.Fragments.{Answered, confirmation, request_octets}
use Rattle.dnp_appfragment.specs.Headers.{Head}
use Rattle.dnp_appfragment.specs.Meaning.{control_of, function_at, response_at}
use Rattle.dnp_appfragment.specs.Reading.{◌>>=◌, headers_at}
use Rattle.dnp_appfragment.specs.Table.{function_of}
use Rattle.dnp_master.specs.declared.fault.MasterFault.{MasterFault}
use Rattle.dnp_master.specs.declared.request.Case.{Case}
use Rattle.dnp_master.specs.declared.request.Case.TheVariants.{Unheeded, Awaited, Report}
use Rattle.dnp_master.specs.declared.request.OpenRequest.{OpenRequest}
use Rattle.dnp_master.specs.Calls.{Taking, unheeded, is_report, is_solicited, is_next, case_by, case_of, report_taken, ended, going_on, taken_as, checked, heard, receive_of, confirm_for}
use Rattle.dnp_master.specs.Rows.{is_from_plan}
use Rattle.dnp_master.specs.State.{State, after}
use Rattle.dnp_master.specs.LinkCalls.{control_in, PassesOver, TakesResponse, TakesReport}

-- ---- the control octet

read_control : (c one two : ℕ) (answered : Answered) (f : Result Function AppFault) (hs : Result (List Head) AppFault)
    → (f >>= (λ g. hs >>= (λ gs. Ok (record { control = control_of c; function = g; iin = record { one = one; two = two }; headers = gs })))) ≡ Ok answered
    → answered.control ≡ control_of c
read_control c one two answered (Err e) hs is = absurd (cc)
read_control c one two answered (Ok g) (Err e) is = absurd (cc)
read_control c one two answered (Ok g) (Ok gs) is =
    let same : record { control = control_of c; function = g; iin = record { one = one; two = two }; headers = gs } ≡ answered = cc in
    ap (λ (a : Answered). a.control) (sym same)

control_is : (octets : List ℕ) (answered : Answered) → response_at octets ≡ Ok answered → answered.control ≡ control_in octets
unfolding response_at
control_is [] answered is = absurd (cc)
control_is (c ∷ []) answered is = absurd (cc)
control_is (c ∷ code ∷ []) answered is = absurd (cc)
control_is (c ∷ code ∷ one ∷ []) answered is = absurd (cc)
control_is (c ∷ code ∷ one ∷ two ∷ body) answered is =
    read_control c one two answered (function_at true (function_of code)) (headers_at form.Response body) is

-- ---- which case it is

-- what each case says of the control octet
abbrev Says : State → ControlBits → Case → Type 0
Says s control Unheeded = Unit {0}
Says s control Report = control.uns ≡ true
Says s control (Awaited request) = (control.uns ≡ false) × (s.request ≡ Some request) × (control.seq ≡ s.seq)

report_uns : (f : Function) (control : ControlBits) → is_report f control ≡ true → control.uns ≡ true
report_uns function.UnsolicitedResponse control is = first control.uns (control.fir && control.fin) is
  where
    first : (a b : Bool) → (a && b) ≡ true → a ≡ true
    first true b is = refl
    first false b is = is
report_uns function.Confirm control is = absurd (false≢true is)
report_uns function.Read control is = absurd (false≢true is)
report_uns function.Write control is = absurd (false≢true is)
report_uns function.Select control is = absurd (false≢true is)
report_uns function.Operate control is = absurd (false≢true is)
report_uns function.DirectOperate control is = absurd (false≢true is)
report_uns function.DirectOperateNr control is = absurd (false≢true is)
report_uns function.EnableUnsolicited control is = absurd (false≢true is)
report_uns function.DisableUnsolicited control is = absurd (false≢true is)
report_uns function.DelayMeasure control is = absurd (false≢true is)
report_uns function.Response control is = absurd (false≢true is)

solicited_uns : (f : Function) (control : ControlBits) → is_solicited f control ≡ true → control.uns ≡ false
solicited_uns function.Response control is = clear control.uns is
  where
    clear : (a : Bool) → not a ≡ true → a ≡ false
    clear true is = absurd (false≢true is)
    clear false is = refl
solicited_uns function.Confirm control is = absurd (false≢true is)
solicited_uns function.Read control is = absurd (false≢true is)
solicited_uns function.Write control is = absurd (false≢true is)
solicited_uns function.Select control is = absurd (false≢true is)
solicited_uns function.Operate control is = absurd (false≢true is)
solicited_uns function.DirectOperate control is = absurd (false≢true is)
solicited_uns function.DirectOperateNr control is = absurd (false≢true is)
solicited_uns function.EnableUnsolicited control is = absurd (false≢true is)
solicited_uns function.DisableUnsolicited control is = absurd (false≢true is)
solicited_uns function.DelayMeasure control is = absurd (false≢true is)
solicited_uns function.UnsolicitedResponse control is = absurd (false≢true is)

next_seq : (seq : ℕ) (request : OpenRequest) (control : ControlBits) → is_next seq request control ≡ true → control.seq ≡ seq
next_seq seq request control is = grind (arith, nat_tests)

says_by : (s : State) (control : ControlBits) (request : Option OpenRequest) → s.request ≡ request → control.uns ≡ false
    → Says s control (case_by s.seq request control)
says_by s control None asked uns = tt
says_by s control (Some request) asked uns = by_next (is_next s.seq request control) refl
  where
    by_next : (b : Bool) → is_next s.seq request control ≡ b → Says s control (cond b (Awaited request) Unheeded)
    by_next true is = (uns, asked, next_seq s.seq request control is)
    by_next false is = tt

case_says : (s : State) (answered : Answered) → Says s answered.control (case_of s answered)
case_says s answered = by_tests (is_report answered.function answered.control) (is_solicited answered.function answered.control) refl refl
  where
    by_tests : (r b : Bool) → is_report answered.function answered.control ≡ r → is_solicited answered.function answered.control ≡ b
        → Says s answered.control (cond r Report (cond b (case_by s.seq s.request answered.control) Unheeded))
    by_tests true b report solicited = report_uns answered.function answered.control report
    by_tests false true report solicited = says_by s answered.control s.request refl (solicited_uns answered.function answered.control solicited)
    by_tests false false report solicited = tt

-- ---- what it makes of the master

abbrev Steps : State → List ℕ → Taking → Type 0
Steps s octets t = PassesOver s t ⊎ (TakesResponse s octets t ⊎ TakesReport s octets t)

passes : (s : State) (octets : List ℕ) → Steps s octets (unheeded s)
passes s octets = inl (record { state = refl; events = refl; statics = refl; confirm = refl })

-- where it is from the plan
from_plan : (b : Bool) (P : Taking → Type 0) (t : Taking) → P t → IfOk (cond b (Ok t) (Err MasterFault.Stranger)) P
from_plan true P t holds = holds
from_plan false P t holds = tt

takes : (s : State) (now : ℕ) (octets : List ℕ) (answered : Answered) → s.is_open ≡ true → response_at octets ≡ Ok answered
    → (case : Case) → Says s answered.control case → IfOk (checked case s.plan answered (taken_as case s now answered)) (Steps s octets)
takes s now octets answered is_open is Unheeded says = passes s octets
takes s now octets answered is_open is Report says =
    let control : answered.control ≡ control_in octets = control_is octets answered is in
    from_plan (is_from_plan s.plan answered.headers) (Steps s octets) (report_taken s answered)
    (inr (inr (record {
      was_open = is_open;
      uns = sym (ap (λ (c : ControlBits). c.uns) control) ∙ says;
      events = ap answered_events (sym is);
      confirm = ap confirm_for control;
      state = refl;
    })))
takes s now octets answered is_open is (Awaited request) says =
    from_plan (is_from_plan s.plan answered.headers) (Steps s octets) (taken_as (Awaited request) s now answered)
    (inr (inl (by_fin answered.control.fin refl)))
  where
    -- what is made of the last fragment and of another is alike but for the state
    taken : (t : Taking) → t.events ≡ answered_events (Ok answered) → t.confirm ≡ confirm_for answered.control → t.state.is_open ≡ true
        → t.state.seq ≡ after s.seq → is_some t.state.request ≡ not answered.control.fin → TakesResponse s octets t
    taken t events confirm stays_open follows busy =
        let control : answered.control ≡ control_in octets = control_is octets answered is in
        record {
          was_open = is_open;
          busy = ap is_some says.1;
          uns = sym (ap (λ (c : ControlBits). c.uns) control) ∙ says.0;
          seq = sym (ap (λ (c : ControlBits). c.seq) control) ∙ says.2;
          events = events ∙ ap answered_events (sym is);
          confirm = confirm ∙ ap confirm_for control;
          stays_open = stays_open;
          follows = follows;
          busy_after = busy ∙ ap (λ (c : ControlBits). not c.fin) control;
        }

    by_fin : (fin : Bool) → answered.control.fin ≡ fin → TakesResponse s octets (cond fin (ended s request answered) (going_on s now request answered))
    by_fin true last = taken (ended s request answered) refl refl is_open refl (ap not (sym last))
    by_fin false last = taken (going_on s now request answered) refl refl is_open refl (ap not (sym last))

hears : (s : State) (now : ℕ) (octets : List ℕ) (r : Result Answered AppFault) → s.is_open ≡ true → response_at octets ≡ r
    → IfOk (heard s now r) (Steps s octets)
hears s now octets (Err fault) is_open is = tt
hears s now octets (Ok answered) is_open is = takes s now octets answered is_open is (case_of s answered) (case_says s answered)

pub receives : (s : State) (now : ℕ) (octets : List ℕ) → IfOk (receive_of s now octets) (Steps s octets)
unfolding receive_of
receives s now octets = by_open s.is_open refl
  where
    by_open : (o : Bool) → s.is_open ≡ o → IfOk (cond o (heard s now (response_at octets)) (Ok (unheeded s))) (Steps s octets)
    by_open true is_open = hears s now octets (response_at octets) is_open refl
    by_open false is_open = passes s octets

-- ---- confirms

pub small_octets : (seq : ℕ) (uns : Bool) → seq < 16 → All (λ octet. octet < 2 ^ 8) (request_octets (confirmation seq uns))
small_octets seq true low zero d within = omega arith
small_octets seq false low zero d within = omega arith
small_octets seq uns low (suc zero) d within = omega arith
small_octets seq uns low (suc (suc k)) d within = absurd (omega arith)
