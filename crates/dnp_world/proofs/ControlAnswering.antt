-- What an outstation answers to a SELECT and to an OPERATE, and what the confirm of an unsolicited response leaves alone.
use Rattle.std.proofs.Common.{◌≡◌, ℕ, ◌<◌, ◌≤◌, Bool, true, false, ◌==◌, if◌then◌else◌, List, [], ◌∷◌, ◌++◌, Option, Some, None, Ok, refl, sym, ap, ◌∙◌, subst, arith}
use Rattle.std.specs.Prelude.{nat_lt}
use Rattle.std.proofs.lemmas.Bool.{eqb-false}
use Rattle.std.proofs.lemmas.Bool.Decides.{nat_tests}
use Rattle.dnp_objects.specs.Status.{success, too_many_objs}
use Rattle.dnp_objects.specs.declared.command.Command.{Command}
use Rattle.dnp_appfragment.specs.Fragments.{Asked, confirmation, request_octets}
use Rattle.dnp_appfragment.specs.Headers.{Head}
use Rattle.dnp_appfragment.specs.Meaning.{request_at}
use Rattle.dnp_appfragment.specs.Written.{order}
use Rattle.dnp_appfragment.specs.declared.function.Function.TheVariants as function
use Rattle.dnp_controls.specs.Panel.{Panel}
use Rattle.dnp_controls.specs.Selecting.{Select, answer, deadline, goes_with}
use Rattle.dnp_outstation.specs.Calls.{connection_after, performed_for, performed_in, received, with_that}
use Rattle.dnp_outstation.specs.Connection.{answers_held, asked, at_end, awaited_number, case_of, control_in, discarding, is_last_request, is_looked_at, is_number, on_unsolicited_confirm, replied}
use Rattle.dnp_outstation.specs.Content.{Executed, answered, plain}
use Rattle.dnp_outstation.specs.Controls.{Outcome, alike, are_too_many, checked, content_at, headers_with, is_control, is_silent, number_in, objects_in, operates_by, operates_selected, outcome_at, selects, with_select}
use Rattle.dnp_outstation.specs.Links.{unsolicited_confirmed}
use Rattle.dnp_outstation.specs.State.{State, Step, holds_read, still}
use Rattle.dnp_outstation.specs.declared.case.Case.{Case}
use Rattle.dnp_outstation.specs.declared.case.Case.TheVariants.{Asks, ConfirmsUnsolicited, Stray}
use Rattle.dnp_outstation.specs.declared.session.LastRequest.{LastRequest}
use Rattle.dnp_outstation.specs.declared.session.Reply.{Reply}
use Rattle.dnp_outstation.specs.declared.session.Reply.TheVariants.{Held, Silent, First, Further}
use Rattle.dnp_outstation.specs.declared.session.Unsolicited.{Unsolicited}
use Rattle.dnp_world.specs.CommandWidths.{HasWidths}
use Rattle.dnp_world.specs.ControlAnswers.{Answers, LeavesRequest, WasAsked, operated_by}
use Rattle.dnp_world.proofs.CommandRequests.{ReadLaws, order_fits}
use Rattle.dnp_world.proofs.ControlAnswers.{ControlLaw, EndKeeps, ResponseLaw, answer_repeats, asking, asks_case, end_keeps, few_octets, looked, order_repeated, room_for_answer, the_commands, two_octets, whole_bits}

-- ---- a request that is carried out

-- its answer, and the end of the call
answers_with : ResponseLaw → (now seq : ℕ) (command : Command) (code : ℕ) (octets : List ℕ) (x : State) (headers : List Head) (before performs : List Command)
    → seq < 16 → code < 128 → headers ≡ order command code ∷ [] → x.core.is_open ≡ true → x.core.session.request ≡ octets → x.core.session.next < 16
    → x.performed ≡ before ++ performs
    → Answers command seq code octets before performs (at_end now (replied now seq (answered x (plain 0 headers))))
answers_with law now seq command code octets x headers before performs low few are opens request number performed =
    let step : Step = replied now seq (answered x (plain 0 headers)) in
    let end : EndKeeps step (at_end now step) = end_keeps now step number in
    record {
      response = _;
      reports = end.reports;
      repeats = answer_repeats law command seq code _ headers low few are;
      are_reports = end.are_reports;
      sends = end.sends;
      performed = end.performed ∙ performed;
      asked = record { is_open = end.is_open ∙ opens; request = end.request ∙ request; holds_none = ap holds_read end.last; number = end.number };
    }

-- one command is not too many
pub one_fits : (o : Panel) (command : Command) → 1 ≤ o.most → are_too_many o (command ∷ []) ≡ false
one_fits o command some = grind (arith, nat_tests, some)

check_is : (o : Panel) (command : Command) → 1 ≤ o.most → checked o (command ∷ []) ≡ o.check
check_is o command some = ap (λ (b : Bool). if b then alike too_many_objs else o.check) (one_fits o command some)

-- it is answered with this status, and performs these
pub record CarriedOut (s : State) (o : Panel) (now seq : ℕ) (command : Command) (octets : List ℕ) (code : ℕ) (those : List Command) : Type 0 where
  pub answers : Answers command seq code octets s.performed those (connection_after s o now octets)
  pub performs : performed_in s.core o now octets ≡ those

-- where it comes to this for the outputs
carried_out : ReadLaws → ResponseLaw → (s : State) (o : Panel) (now seq : ℕ) (command : Command) (octets : List ℕ) (x : Outcome) (code : ℕ) → seq < 16
    → HasWidths command → s.core.is_open ≡ true → s.core.session.next < 16 → case_of s.core octets ≡ Asks → control_in octets ≡ whole_bits false seq
    → is_control octets ≡ true → is_silent octets ≡ false
    → outcome_at (asked s octets).core.session.selects s.core.times.select_ms o now octets (request_at octets) ≡ Ok (x, order command 0 ∷ [])
    → code < 128 → x.code command ≡ code → CarriedOut s o now seq command octets code x.performs
carried_out laws law s o now seq command octets x code low widths opens number case_is control_is control loud outcome_is few said =
    let headers : List Head = headers_with x.code (order command 0 ∷ []) in
    let after : State = record (with_select (asked s octets) x.select) { performed = s.performed ++ x.performs } in
    let content_is : content_at (asked s octets) o now octets ≡ answered after (plain 0 headers) = rw (control, loud, outcome_is) refl in
    let code_is : headers ≡ order command code ∷ [] = order_repeated laws x.code command widths ∙ ap (λ (n : ℕ). order command n ∷ []) said in
    let step_is : connection_after s o now octets ≡ at_end now (replied now seq (answered after (plain 0 headers))) =
    ap (received s o now octets) case_is
    ∙ ap (λ (e : Executed). at_end now (replied now (control_in octets).seq e)) content_is
    ∙ ap (λ (n : ℕ). at_end now (replied now n (answered after (plain 0 headers)))) (ap (λ c. c.seq) control_is) in
    record {
      answers = subst (λ (step : Step). Answers command seq code octets s.performed x.performs step) (sym step_is)
          (answers_with law now seq command code octets after headers s.performed x.performs low few code_is opens refl number refl);
      performs = rw (case_is, control, outcome_is) refl;
    }

-- ---- a SELECT

pub select_answers : ReadLaws → ResponseLaw → ControlLaw → (s : State) (o : Panel) (now seq : ℕ) (command : Command) → seq < 16 → HasWidths command
    → s.core.is_open ≡ true → s.core.session.next < 16 → is_last_request s.core.session (asking seq function.Select command) ≡ false
    → 1 ≤ o.most → o.check command < 128 → CarriedOut s o now seq command (asking seq function.Select command) (o.check command) []
select_answers laws law is_control s o now seq command low widths opens number other some few =
    let q : List ℕ = asking seq function.Select command in
    let t : State = asked s q in
    let headers : List Head = order command 0 ∷ [] in
    let request : Asked = record { control = whole_bits false seq; function = function.Select; headers = headers } in
    let control_is : control_in q ≡ whole_bits false seq = is_control (whole_bits false seq) low in
    let looked_is : is_looked_at s.core q ≡ true =
    looked s.core q (whole_bits false seq) opens (two_octets seq function.Select command) (few_octets seq function.Select command) control_is refl refl refl in
    let case_is : case_of s.core q ≡ Asks = asks_case s.core q looked_is refl other refl in
    let read_is : request_at q ≡ Ok request = laws.is_request request low refl (order_fits command, tt) in
    let x : Outcome = selects o now q (command ∷ []) in
    let outcome_is : outcome_at t.core.session.selects t.core.times.select_ms o now q (request_at q) ≡ Ok (x, headers) =
    rw read_is (rw (room_for_answer seq function.Select command)
    (ap (λ (cs : List Command). Ok (selects o now q cs, headers)) (the_commands laws command widths))) in
    carried_out laws law s o now seq command q x (o.check command) low widths opens number case_is control_is refl refl outcome_is few
    (ap (λ (f : Command → ℕ). f command) (check_is o command some))

-- ---- an OPERATE

-- what it comes to: its status, and the command where that is SUCCESS, which the outputs have for it then
record CameTo (o : Panel) (command : Command) (x : Outcome) : Type 0 where
  code : ℕ
  low : code < 128
  checks : code ≡ success → o.check command ≡ success
  performs : x.performs ≡ operated_by code command
  said : x.code command ≡ code

came_to : (code : ℕ) (o : Panel) (command : Command) → code < 128 → o.check command < 128 → 1 ≤ o.most
    → CameTo o command (operates_by code o (command ∷ []))
came_to code o command low few some = by (code == success) refl
  where
    accepted_is : (b : Bool) → (o.check command == success) ≡ b → (if b then command ∷ [] else []) ≡ operated_by (o.check command) command
    accepted_is b e = ap (λ (x : Bool). if x then command ∷ [] else []) (sym e)

    by : (b : Bool) → (code == success) ≡ b → CameTo o command (operates_by code o (command ∷ []))
    by true e = rw e (record {
      code = o.check command;
      low = few;
      checks = λ good. good;
      performs = rw (one_fits o command some) refl;
      said = ap (λ (f : Command → ℕ). f command) (check_is o command some);
    })
    by false e = rw e (record { code = code; low = low; checks = λ good. absurd (eqb-false code 0 e good); performs = rw e refl; said = refl })

answer_low : (select : Option Select) (now seq : ℕ) (octets : List ℕ) (time : ℕ) → answer select now seq octets time < 128
answer_low None now seq octets time = omega arith
answer_low (Some select) now seq octets time = by (goes_with select seq octets) (nat_lt now (deadline select.at time))
  where
    by : (b c : Bool) → (if b then (if c then 0 else 1) else 2) < 128
    by true true = omega arith
    by true false = omega arith
    by false c = omega arith

pub record OperateFacts (s : State) (o : Panel) (now seq : ℕ) (command : Command) (octets : List ℕ) : Type 0 where
  pub code : ℕ
  pub checks : code ≡ success → o.check command ≡ success
  pub out : CarriedOut s o now seq command octets code (operated_by code command)

pub operate_answers : ReadLaws → ResponseLaw → ControlLaw → (s : State) (o : Panel) (now seq : ℕ) (command : Command) → seq < 16 → HasWidths command
    → s.core.is_open ≡ true → s.core.session.next < 16 → is_last_request s.core.session (asking seq function.Operate command) ≡ false
    → 1 ≤ o.most → o.check command < 128 → OperateFacts s o now seq command (asking seq function.Operate command)
operate_answers laws law is_control s o now seq command low widths opens number other some few =
    let q : List ℕ = asking seq function.Operate command in
    let t : State = asked s q in
    let headers : List Head = order command 0 ∷ [] in
    let request : Asked = record { control = whole_bits false seq; function = function.Operate; headers = headers } in
    let control_is : control_in q ≡ whole_bits false seq = is_control (whole_bits false seq) low in
    let looked_is : is_looked_at s.core q ≡ true =
    looked s.core q (whole_bits false seq) opens (two_octets seq function.Operate command) (few_octets seq function.Operate command)
    control_is refl refl refl in
    let case_is : case_of s.core q ≡ Asks = asks_case s.core q looked_is refl other refl in
    let read_is : request_at q ≡ Ok request = laws.is_request request low refl (order_fits command, tt) in
    let select : Option Select = t.core.session.selects in
    let time : ℕ = t.core.times.select_ms in
    let found : ℕ = answer select now (number_in q) (objects_in q) time in
    let x : Outcome = operates_by found o (command ∷ []) in
    let by_answer : operates_selected select time o now q (command ∷ []) ≡ x = rw (one_fits o command some) refl in
    let outcome_is : outcome_at select time o now q (request_at q) ≡ Ok (x, headers) =
    rw read_is (rw (room_for_answer seq function.Operate command)
    (ap (λ (cs : List Command). Ok (operates_selected select time o now q cs, headers)) (the_commands laws command widths)
    ∙ ap (λ (y : Outcome). Ok (y, headers)) by_answer)) in
    let came : CameTo o command x = came_to found o command (answer_low select now (number_in q) (objects_in q) time) few some in
    let out =
    carried_out laws law s o now seq command q x came.code low widths opens number case_is control_is refl refl outcome_is came.low came.said in
    record {
      code = came.code;
      checks = came.checks;
      out = subst (CarriedOut s o now seq command q came.code) came.performs out;
    }

-- ---- the confirm of an unsolicited response

settled : (octets : List ℕ) (before : List Command) (now : ℕ) (step : Step) → step.does.send ≡ [] → step.state.performed ≡ before
    → WasAsked octets step.state.core → LeavesRequest octets before (at_end now step)
settled octets before now step silent performed was =
    let end : EndKeeps step (at_end now step) = end_keeps now step was.number in
    record {
      are_reports = rw (end.sends ∙ ap (λ (f : List (List ℕ)). f ++ end.reports) silent) end.are_reports;
      performed = end.performed ∙ performed;
      asked = record {
        is_open = end.is_open ∙ was.is_open;
        request = end.request ∙ was.request;
        holds_none = ap holds_read end.last ∙ was.holds_none;
        number = end.number;
      };
    }

-- no READ is answered
held_none : (after : State) (o : Panel) (now : ℕ) (last : Option LastRequest) → holds_read last ≡ false → answers_held after o now last ≡ still after
held_none after o now None free = refl
held_none after o now (Some last) free = by last.reply free
  where
    by : (reply : Reply) → holds_read (Some (record last { reply = reply })) ≡ false
        → answers_held after o now (Some (record last { reply = reply })) ≡ still after
    by Held e = absurd (cc)
    by Silent e = refl
    by (First f) e = refl
    by Further e = refl

unsolicited_settles : (s : State) (o : Panel) (now : ℕ) (octets : List ℕ) (u : Option Unsolicited) → WasAsked octets s.core
    → LeavesRequest octets s.performed (at_end now (with_that s u (on_unsolicited_confirm s o now)))
unsolicited_settles s o now octets None was = settled octets s.performed now (still s) refl refl was
unsolicited_settles s o now octets (Some w) was =
    let after : State = unsolicited_confirmed s w in
    rw (held_none after o now s.core.session.last was.holds_none)
    (settled octets s.performed now (discarding s w.upto (still after)) refl refl
    (record { is_open = was.is_open; request = was.request; holds_none = was.holds_none; number = was.number }))

-- the last request stays
unsolicited_last : (s : State) (o : Panel) (now : ℕ) (u : Option Unsolicited) → holds_read s.core.session.last ≡ false → s.core.session.next < 16
    → (at_end now (with_that s u (on_unsolicited_confirm s o now))).state.core.session.last ≡ s.core.session.last
unsolicited_last s o now None free low = (end_keeps now (still s) low).last
unsolicited_last s o now (Some w) free low =
    let after : State = unsolicited_confirmed s w in
    rw (held_none after o now s.core.session.last free) (end_keeps now (discarding s w.upto (still after)) low).last

pub record ConfirmFacts (s : State) (o : Panel) (now : ℕ) (last octets : List ℕ) : Type 0 where
  pub leaves : LeavesRequest last s.performed (connection_after s o now octets)
  pub last_is : (connection_after s o now octets).state.core.session.last ≡ s.core.session.last
  pub performs : performed_in s.core o now octets ≡ []

module _ (control_law : ControlLaw) (s : State) (o : Panel) (now seq : ℕ) (octets : List ℕ) (low : seq < 16) (was : WasAsked octets s.core) where
  abbrev confirm : List ℕ
  confirm = request_octets (confirmation seq true)

  confirms_as : (x : Case) → case_of s.core confirm ≡ x → performed_for s.core o now confirm x ≡ []
      → LeavesRequest octets s.performed (received s o now confirm x) → (received s o now confirm x).state.core.session.last ≡ s.core.session.last
      → ConfirmFacts s o now octets confirm
  confirms_as x is none leaves last = record {
    leaves = subst (LeavesRequest octets s.performed) (sym (ap (received s o now confirm) is)) leaves;
    last_is = ap (λ (step : Step). step.state.core.session.last) (ap (received s o now confirm) is) ∙ last;
    performs = ap (performed_for s.core o now confirm) is ∙ none;
  }

  pub confirm_leaves : ConfirmFacts s o now octets confirm
  confirm_leaves = by (is_number (awaited_number s.core.session (control_in confirm).uns) (control_in confirm).seq) refl
    where
      control_is : control_in confirm ≡ whole_bits true seq
      control_is = control_law (whole_bits true seq) low

      looked_is : is_looked_at s.core confirm ≡ true
      looked_is = looked s.core confirm (whole_bits true seq) was.is_open refl refl control_is refl refl refl

      by : (b : Bool) → is_number (awaited_number s.core.session (control_in confirm).uns) (control_in confirm).seq ≡ b → ConfirmFacts s o now octets confirm
      by true e =
          confirms_as ConfirmsUnsolicited (rw (looked_is, e, ap (λ c. c.uns) control_is) refl) refl
          (unsolicited_settles s o now octets s.core.session.unsolicited was)
          (unsolicited_last s o now s.core.session.unsolicited was.holds_none was.number)
      by false e =
          confirms_as Stray (rw (looked_is, e) refl) refl (settled octets s.performed now (still s) refl refl was) (end_keeps now (still s) was.number).last
