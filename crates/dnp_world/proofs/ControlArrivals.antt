-- Fragments that come to an outstation and to a master, one after the other, while a control goes over their link.
use Rattle.std.proofs.Common.{◌≡◌, ℕ, ◌<◌, Bool, true, false, List, [], ◌∷◌, ◌++◌, Option, Some, None, Result, Ok, Err, refl, sym, ap, ◌∙◌, subst, append_assoc, append-nil}
use Rattle.std.specs.Prelude.{IfSome, ◌≢◌, bytes_eq, is_some, option_to_list, ◌&&◌}
use Rattle.std.specs.List.{All}
use Rattle.std.proofs.lemmas.List.Elements.{All-nil, All-cons, All-append, All-head, All-tail}
use Rattle.std.proofs.lemmas.Slice.Eq.{bytes_eq-Decides}
use Rattle.dnp_appfragment.specs.Fragments.{confirmation, request_octets}
use Rattle.dnp_appfragment.specs.declared.function.Function.TheVariants as function
use Rattle.dnp_concentrator.specs.Relaying as relaying
use Rattle.dnp_concentrator.specs.Relaying.{Relaying, progress_heard}
use Rattle.dnp_concentrator.specs.declared.progress.Progress.{Progress}
use Rattle.dnp_master.specs.Calls.{Taking, receive_of}
use Rattle.dnp_master.specs.Outcomes.{command_for, selected_by}
use Rattle.dnp_master.specs.State as master
use Rattle.dnp_master.specs.declared.fault.MasterFault.{MasterFault}
use Rattle.dnp_master.specs.declared.outcome.Echo.TheVariants as echo
use Rattle.dnp_master.specs.declared.outcome.Outcome.{Outcome}
use Rattle.dnp_master.specs.declared.outcome.Outcome.TheVariants as outcome
use Rattle.dnp_master.specs.declared.task.Task.{Task}
use Rattle.dnp_objects.specs.Status.{success}
use Rattle.dnp_objects.specs.declared.command.Command.{Command}
use Rattle.dnp_controls.specs.Panel.{Panel}
use Rattle.dnp_outstation.specs.Calls.{connection_after, performed_in}
use Rattle.dnp_outstation.specs.Connection.{is_last_request}
use Rattle.dnp_outstation.specs.State.{Core, State, Step}
use Rattle.dnp_outstation.specs.declared.session.LastRequest.{LastRequest}
use Rattle.dnp_world.specs.CommandWidths.{HasWidths}
use Rattle.dnp_world.specs.ControlAnswers.{Answers, AreReports, Awaits, ConfirmsReport, HearsStatus, IsNewTo, PassesReport, Repeats, WasAsked, operated_by}
use Rattle.dnp_world.specs.ControlExchanges.{AnswersAll, ChecksAs, HearsAnswer, HearsAnswers}
use Rattle.dnp_world.specs.Octets.{after, uns_in}
use Rattle.dnp_world.proofs.CommandRequests.{ReadLaws}
use Rattle.dnp_world.proofs.ControlAnswers.{ControlLaw, ResponseLaw, asking}
use Rattle.dnp_world.proofs.ControlAnswering.{CarriedOut, ConfirmFacts, OperateFacts, confirm_leaves, operate_answers, select_answers}
use Rattle.dnp_world.proofs.ControlHearing.{Heard, SameLaw, answer_heard, report_heard}

-- what laws promise of a command on its way
pub record ControlLaws : Type 0 where
  pub reads : ReadLaws
  pub response : ResponseLaw
  pub is_control : ControlLaw
  pub same : SameLaw

abbrev pub AreConfirms : List (List ℕ) → Type 0
AreConfirms fragments = All ConfirmsReport fragments

-- ---- down

-- what an outstation sent: its answer among reports; and these octets were asked last
pub record Sent (command : Command) (seq status : ℕ) (octets : List ℕ) (new : State) (sent : List (List ℕ)) : Type 0 where
  pub before : List (List ℕ)
  pub response : List ℕ
  pub behind : List (List ℕ)
  pub before_are : AreReports before
  pub behind_are : AreReports behind
  pub repeats : Repeats command seq status response
  pub is : sent ≡ before ++ response ∷ behind
  pub asked : WasAsked octets new.core

-- nothing comes after the last fragment
last_of : {A : Type 0} (first later all : List A) → all ≡ first ++ later → later ≡ [] → all ≡ first
last_of first later all is none = is ∙ ap (λ xs. first ++ xs) none ∙ append-nil first

-- the answer to the last fragment
answer_sent : (command : Command) (seq status : ℕ) (octets : List ℕ) (before performs : List Command) (step : Step) (new next : State)
    (later sent : List (List ℕ)) → Answers command seq status octets before performs step → next.core ≡ step.state.core → new ≡ next
    → sent ≡ step.does.send ++ later → later ≡ [] → Sent command seq status octets new sent
answer_sent command seq status octets before performs step new next later sent a core_is new_is sent_is later_is = record {
  before = [];
  response = a.response;
  behind = a.reports;
  before_are = All-nil (λ (f : List ℕ). uns_in f ≡ true);
  behind_are = a.are_reports;
  repeats = a.repeats;
  is = last_of step.does.send later sent sent_is later_is ∙ a.sends;
  asked = subst (WasAsked octets) (sym (ap (λ (x : State). x.core) new_is ∙ core_is)) a.asked;
}

pub record Selected (command : Command) (seq status : ℕ) (new : State) (sent : List (List ℕ)) (commands : List Command) : Type 0 where
  pub sends : Sent command seq status (asking seq function.Select command) new sent
  pub none : commands ≡ []

pub select_comes : ControlLaws → (now seq status : ℕ) (command : Command) (s new : State) (sent : List (List ℕ)) (commands : List Command)
    → seq < 16 → HasWidths command → status < 128 → s.core.is_open ≡ true → s.core.session.next < 16
    → is_last_request s.core.session (asking seq function.Select command) ≡ false
    → AnswersAll now (ChecksAs command status) (asking seq function.Select command ∷ []) s new sent commands
    → Selected command seq status new sent commands
select_comes laws now seq status command s new sent commands low widths few opens number other
    (o, next, later, more, checks, core_is, sent_is, commands_is, (new_is, later_is, more_is)) =
    let q : List ℕ = asking seq function.Select command in
    let facts : CarriedOut s o now seq command q (o.check command) [] =
    select_answers laws.reads laws.response laws.is_control s o now seq command low widths opens number other checks.some (rw checks.check few) in
    let step : Step = connection_after s o now q in
    record {
      sends = answer_sent command seq status q s.performed [] step new next later sent
          (subst (λ (n : ℕ). Answers command seq n q s.performed [] step) checks.check facts.answers) core_is new_is sent_is later_is;
      none = last_of (performed_in s.core o now q) more commands commands_is more_is ∙ facts.performs;
    }

-- other octets than those asked last
pub other_asked : (c : Core) (octets last : List ℕ) → WasAsked last c → octets ≢ last → is_last_request c.session octets ≡ false
other_asked c octets last was differs = by (is_some c.session.last) (bytes_eq octets c.session.request) refl
  where
    by : (a b : Bool) → bytes_eq octets c.session.request ≡ b → (a && b) ≡ false
    by false b is = refl
    by true false is = refl
    by true true is = absurd (differs ((bytes_eq-Decides octets c.session.request).0 is ∙ was.request))

-- octets that are new stay so after the confirm of a report
pub stays_new : ControlLaw → (s : State) (o : Panel) (now number : ℕ) (octets : List ℕ) → number < 16 → IsNewTo octets s.core
    → IsNewTo octets (connection_after s o now (request_octets (confirmation number true))).state.core
stays_new law s o now number octets four new =
    let last : List ℕ = s.core.session.request in
    let q : List ℕ = request_octets (confirmation number true) in
    let facts : ConfirmFacts s o now last q =
    confirm_leaves law s o now number last four
    (record { is_open = new.is_open; request = refl; holds_none = new.holds_none; number = new.number }) in
    let after : Core = (connection_after s o now q).state.core in
    let asked : WasAsked last after = facts.leaves.asked in
    record {
      is_open = asked.is_open;
      other = ap (λ (x : Option LastRequest). is_some x && bytes_eq octets after.session.request) facts.last_is
          ∙ ap (λ (xs : List ℕ). is_some s.core.session.last && bytes_eq octets xs) asked.request
          ∙ new.other;
      holds_none = asked.holds_none;
      number = asked.number;
    }

pub record Operated (command : Command) (seq check : ℕ) (new : State) (sent : List (List ℕ)) (commands : List Command) : Type 0 where
  pub status : ℕ
  pub checks : status ≡ success → check ≡ success
  pub sends : Sent command seq status (asking seq function.Operate command) new sent
  pub those : commands ≡ operated_by status command

-- an OPERATE comes after confirms of reports
pub operate_comes : ControlLaws → (now seq status : ℕ) (command : Command) (going : List (List ℕ)) (s new : State) (sent : List (List ℕ))
    (commands : List Command) → seq < 16 → HasWidths command → status < 128 → AreConfirms going → IsNewTo (asking seq function.Operate command) s.core
    → AnswersAll now (ChecksAs command status) (going ++ asking seq function.Operate command ∷ []) s new sent commands
    → Operated command seq status new sent commands
operate_comes laws now seq status command [] s new sent commands low widths few confirms is
    (o, next, later, more, checks, core_is, sent_is, commands_is, (new_is, later_is, more_is)) =
    let q : List ℕ = asking seq function.Operate command in
    let facts : OperateFacts s o now seq command q =
    operate_answers laws.reads laws.response laws.is_control s o now seq command low widths is.is_open is.number is.other checks.some (rw checks.check few) in
    record {
      status = facts.code;
      checks = λ good. sym checks.check ∙ facts.checks good;
      sends = answer_sent command seq facts.code q s.performed (operated_by facts.code command) (connection_after s o now q) new next later sent
          facts.out.answers core_is new_is sent_is later_is;
      those = last_of (performed_in s.core o now q) more commands commands_is more_is ∙ facts.out.performs;
    }
operate_comes laws now seq status command (f ∷ fs) s new sent commands low widths few confirms is
    (o, next, later, more, checks, core_is, sent_is, commands_is, rest) =
    let (number, four, f_is) = All-head ConfirmsReport f fs confirms in
    let q : List ℕ = asking seq function.Operate command in
    let last : List ℕ = s.core.session.request in
    let facts : ConfirmFacts s o now last f =
    subst (ConfirmFacts s o now last) (sym f_is)
    (confirm_leaves laws.is_control s o now number last four
    (record { is_open = is.is_open; request = refl; holds_none = is.holds_none; number = is.number })) in
    let stays : IsNewTo q (connection_after s o now f).state.core =
    subst (λ (x : List ℕ). IsNewTo q (connection_after s o now x).state.core) (sym f_is) (stays_new laws.is_control s o now number q four is) in
    let h : Operated command seq status new later more =
    operate_comes laws now seq status command fs next new later more low widths few (All-tail ConfirmsReport f fs confirms)
    (subst (IsNewTo q) (sym core_is) stays) rest in
    let first : List (List ℕ) = (connection_after s o now f).does.send in
    record {
      status = h.status;
      checks = h.checks;
      sends = record {
        before = first ++ h.sends.before;
        response = h.sends.response;
        behind = h.sends.behind;
        before_are = All-append (λ (x : List ℕ). uns_in x ≡ true) first h.sends.before facts.leaves.are_reports h.sends.before_are;
        behind_are = h.sends.behind_are;
        repeats = h.sends.repeats;
        is = sent_is
            ∙ ap (λ (xs : List (List ℕ)). first ++ xs) h.sends.is
            ∙ sym (append_assoc first h.sends.before (h.sends.response ∷ h.sends.behind));
        asked = h.sends.asked;
      };
      those = commands_is ∙ ap (λ (xs : List Command). xs ++ more) facts.performs ∙ h.those;
    }

-- confirms of reports perform nothing, and reports alone come of them
pub record Quiet (sent : List (List ℕ)) (commands : List Command) : Type 0 where
  pub none : commands ≡ []
  pub reports : AreReports sent

pub confirms_come : ControlLaw → (now : ℕ) (IsOutputs : Panel → Type 0) (last : List ℕ) (going : List (List ℕ)) (s new : State) (sent : List (List ℕ))
    (commands : List Command) → AreConfirms going → WasAsked last s.core → AnswersAll now IsOutputs going s new sent commands → Quiet sent commands
confirms_come law now IsOutputs last [] s new sent commands confirms was (new_is, sent_is, commands_is) =
    record { none = commands_is; reports = subst AreReports (sym sent_is) (All-nil (λ (f : List ℕ). uns_in f ≡ true)) }
confirms_come law now IsOutputs last (f ∷ fs) s new sent commands confirms was
    (o, next, later, more, checks, core_is, sent_is, commands_is, rest) =
    let (number, four, f_is) = All-head ConfirmsReport f fs confirms in
    let facts : ConfirmFacts s o now last f =
    subst (ConfirmFacts s o now last) (sym f_is) (confirm_leaves law s o now number last four was) in
    let h : Quiet later more =
    confirms_come law now IsOutputs last fs next new later more (All-tail ConfirmsReport f fs confirms)
    (subst (WasAsked last) (sym core_is) facts.leaves.asked) rest in
    record {
      none = commands_is ∙ ap (λ (xs : List Command). performed_in s.core o now f ++ xs) h.none ∙ append-nil (performed_in s.core o now f) ∙ facts.performs;
      reports = subst AreReports (sym sent_is)
          (All-append (λ (x : List ℕ). uns_in x ≡ true) (connection_after s o now f).does.send later facts.leaves.are_reports h.reports);
    }

-- ---- up

progress_none : (p : Option Progress) → progress_heard p None ≡ p
progress_none None = refl
progress_none (Some p) = refl

-- a report leaves the link as it is
received_same : (r : Relaying) (t : Taking) → PassesReport r.master t → relaying.received r t ≡ r
received_same r t passes =
    ap (λ (m : master.State). record { master = m; progress = progress_heard r.progress t.outcome }) passes.state
    ∙ ap (λ (o : Option Outcome). record { master = r.master; progress = progress_heard r.progress o }) passes.outcome
    ∙ ap (λ (p : Option Progress). record { master = r.master; progress = p }) (progress_none r.progress)

confirm_listed : (o : Option (List ℕ)) → IfSome o ConfirmsReport → AreConfirms (option_to_list o)
confirm_listed None h = All-nil ConfirmsReport
confirm_listed (Some octets) h = All-cons ConfirmsReport octets [] h (All-nil ConfirmsReport)

pub record Unmoved (r new : Relaying) (confirms : List (List ℕ)) : Type 0 where
  pub same : new ≡ r
  pub are : AreConfirms confirms

hears_one : (now : ℕ) (r new : Relaying) (fragment : List ℕ) (confirms : List (List ℕ)) → uns_in fragment ≡ true
    → HearsAnswer (receive_of r.master now fragment) r new confirms → Unmoved r new confirms
hears_one now r new fragment confirms uns h = by (receive_of r.master now fragment) refl h
  where
    by : (x : Result Taking MasterFault) → receive_of r.master now fragment ≡ x → HearsAnswer x r new confirms → Unmoved r new confirms
    by (Ok t) is (new_is, confirms_is) =
        let passes : PassesReport r.master t = report_heard r.master now fragment t uns is in
        record { same = new_is ∙ received_same r t passes; are = subst AreConfirms (sym confirms_is) (confirm_listed t.confirm passes.confirm) }
    by (Err fault) is (new_is, confirms_is) = record { same = new_is; are = subst AreConfirms (sym confirms_is) (All-nil ConfirmsReport) }

pub hears_reports : (now : ℕ) (fragments : List (List ℕ)) (r new : Relaying) (confirms : List (List ℕ)) → AreReports fragments
    → HearsAnswers now fragments r new confirms → Unmoved r new confirms
hears_reports now [] r new confirms reports (new_is, confirms_is) =
    record { same = new_is; are = subst AreConfirms (sym confirms_is) (All-nil ConfirmsReport) }
hears_reports now (f ∷ fs) r new confirms reports (next, first, later, heard, confirms_is, rest) =
    let one : Unmoved r next first = hears_one now r next f first (All-head (λ (x : List ℕ). uns_in x ≡ true) f fs reports) heard in
    let others : Unmoved next new later = hears_reports now fs next new later (All-tail (λ (x : List ℕ). uns_in x ≡ true) f fs reports) rest in
    record {
      same = others.same ∙ one.same;
      are = subst AreConfirms (sym confirms_is) (All-append ConfirmsReport first later one.are others.are);
    }

-- the link that heard the status of its task
abbrev pub heard_status : Relaying → Task → ℕ → Relaying
heard_status r task status = record {
  master = record r.master { seq = after r.master.seq; request = None; selected = selected_by task (echo.Same status) };
  progress = progress_heard r.progress (Some (outcome.Control status));
}

received_status : (r : Relaying) (task : Task) (status : ℕ) (t : Taking) → HearsStatus task status r.master t
    → relaying.received r t ≡ heard_status r task status
received_status r task status t h =
    ap (λ (m : master.State). record { master = m; progress = progress_heard r.progress t.outcome }) h.state
    ∙ ap (λ (o : Option Outcome). record {
      master = record r.master { seq = after r.master.seq; request = None; selected = selected_by task (echo.Same status) };
      progress = progress_heard r.progress o;
    }) h.outcome_is

pub hears_answer : ControlLaws → (now status : ℕ) (task : Task) (command : Command) (before : List (List ℕ)) (response : List ℕ) (behind : List (List ℕ))
    (r new : Relaying) (confirms : List (List ℕ)) → command_for task ≡ Some command → HasWidths command → Awaits task r.master → AreReports before
    → AreReports behind → Repeats command r.master.seq status response → HearsAnswers now (before ++ response ∷ behind) r new confirms
    → Unmoved (heard_status r task status) new confirms
hears_answer laws now status task command [] response behind r new confirms is_for widths awaits before_are behind_are repeats
    (next, first, later, heard, confirms_is, rest) =
    let h : Heard task status now r.master response =
    answer_heard laws.reads laws.same task command status now r.master response is_for widths awaits repeats in
    let took : HearsAnswer (Ok h.taking) r next first = subst (λ (x : Result Taking MasterFault). HearsAnswer x r next first) h.takes heard in
    let next_is : next ≡ heard_status r task status = took.0 ∙ received_status r task status h.taking h.hears in
    let first_is : first ≡ [] = took.1 ∙ ap (λ (o : Option (List ℕ)). option_to_list o) h.hears.confirm in
    let others : Unmoved next new later = hears_reports now behind next new later behind_are rest in
    record {
      same = others.same ∙ next_is;
      are = subst AreConfirms (sym (confirms_is ∙ ap (λ (xs : List (List ℕ)). xs ++ later) first_is)) others.are;
    }
hears_answer laws now status task command (f ∷ fs) response behind r new confirms is_for widths awaits before_are behind_are repeats
    (next, first, later, heard, confirms_is, rest) =
    let one : Unmoved r next first = hears_one now r next f first (All-head (λ (x : List ℕ). uns_in x ≡ true) f fs before_are) heard in
    let others : Unmoved (heard_status r task status) new later =
    hears_answer laws now status task command fs response behind r new later is_for widths awaits (All-tail (λ (x : List ℕ). uns_in x ≡ true) f fs before_are)
    behind_are repeats (subst (λ (x : Relaying). HearsAnswers now (fs ++ response ∷ behind) x new later) one.same rest) in
    record {
      same = others.same;
      are = subst AreConfirms (sym confirms_is) (All-append ConfirmsReport first later one.are others.are);
    }
