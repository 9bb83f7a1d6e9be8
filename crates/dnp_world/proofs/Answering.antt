-- Each move of the outstation keeps what stands.
use Rattle.std.proofs.Common.{◌≡◌, ℕ, Bool, true, false, List, [], ◌∷◌, ◌++◌, ◌⊎◌, refl, sym, ap, ◌∙◌, subst, arith, Some, None}
use Rattle.std.specs.Prelude.{Option, IfSome}
use Rattle.dnp_objects.specs.declared.command.Command.{Command}
use Rattle.dnp_objects.specs.Counts.{IsCoveredBy}
use Rattle.dnp_world.specs.Lists.{picked}
use Rattle.dnp_world.specs.Octets.{after, commands_in, seq_in}
use Rattle.dnp_world.specs.LawLink.{Asks, Awaited, AwaitedReport, Confirms, ConfirmsReport, Continuing, Down, FirstSent, SentFragment, FurtherSent, LastRequest, LawLink, LawMaster, NothingSent, Phase, Received, Reports, Requested, Responding, Responds, fin_of, report_down, report_up, seq_of, solicited_down, solicited_up}
use Rattle.dnp_world.specs.Moves.{IsOffered, IsOther, MayAwait, confirmed, continued, received, repeated, report_confirmed, report_repeated, report_sent, responded, stopped_waiting}
use Rattle.dnp_world.specs.Standing.{Agrees, AllIn, Conversation, IsOfReport, Reporting, Solicited, CarriesLaw, Unsolicited, conversation, inventory, reporting_of}
use Rattle.dnp_world.proofs.Counting.{count_by-append}
use Rattle.dnp_world.proofs.Connections.{not_asked, picked_none, picked_one}
use Rattle.dnp_world.proofs.Responses
use Rattle.dnp_world.proofs.ReportMoves
use Rattle.dnp_world.proofs.Offers
use Rattle.dnp_world.proofs.EventMoves

-- ---- the outstation

heard_agrees : (c : SentFragment) (m : LawMaster) (phase : Phase) (q : List ℕ) → phase ≡ Requested q → Agrees phase c m → Agrees (Received q) c m
heard_agrees c m phase q e a = subst (λ (t : Phase). Agrees t c m) e a

pub received_stands : (l : LawLink) (q : List ℕ) (rest : List Down) (commands : List Command) → l.down ≡ Asks q ∷ rest →
    l.outstation.is_open ≡ true →
    IsOther q l.outstation.last → IsCoveredBy commands (commands_in q) → CarriesLaw l → CarriesLaw (received q commands l)
received_stands l q rest commands down_is opens other few s =
    let v : Conversation = conversation l in
    let downs : v.down ≡ Asks q ∷ picked solicited_down rest = ap (picked solicited_down) down_is in
    let came : (l.phase ≡ Requested q) × (picked solicited_down rest ≡ []) = Responses.is_asked v q (picked solicited_down rest) downs other
    (s.solicited opens) in
    let asked : IsCoveredBy ((commands_in q) ++ l.performed) l.asked = s.commands.pending opens q came.0 in
    record {
      rows = s.rows;
      commands = not_asked l.outstation.is_open (Received q) l.asked (l.performed ++ commands) (λ p e. absurd (cc))
          record {
            at_most = λ test. omega (
              arith,
              asked.at_most test,
              few.at_most test,
              count_by-append test (commands_in q) l.performed,
              count_by-append test l.performed commands,
            );
          };
      solicited = λ o. Responses.hears v q (picked solicited_down rest) downs other (s.solicited o);
      agrees = λ o m. heard_agrees l.current l.master l.phase q came.0 (s.agrees o m);
      unsolicited = s.unsolicited;
    }

answer_agrees : (phase : Phase) (c f : SentFragment) (q : List ℕ) (m : LawMaster) → phase ≡ Received q → seq_of f ≡ seq_in q → Agrees phase c m →
    Agrees Responding f m
answer_agrees phase c f q m e number a =
    let b : Agrees (Received q) c m = subst (λ (t : Phase). Agrees t c m) e a in
    (b.0, b.1 ∙ sym number)

pub responded_stands : (l : LawLink) (q : List ℕ) (f : SentFragment) (was_more more : Bool) (awaited : Option Awaited) →
    l.outstation.last ≡ Some (record { request = q; reply = NothingSent; more = was_more }) → seq_of f ≡ seq_in q →
    IsOffered false l.lanes l.last_id f → (more ≡ true → fin_of f ≡ false) → MayAwait f awaited → CarriesLaw l → CarriesLaw (responded q f more awaited l)
responded_stands l q f was_more more awaited last_is number offered ended waits s =
    record {
      rows = EventMoves.rows_sent (inventory l) f offered s.rows;
      commands = not_asked l.outstation.is_open Responding l.asked l.performed (λ p e. absurd (cc)) s.commands.covered;
      solicited = λ o.
          subst (λ (u : List SentFragment). Solicited
          (record (conversation l) {
            last = Some
                (record { request = q; reply = FirstSent f.octets f.upto; more = more });
            awaited = awaited;
            phase = Responding;
            trigger = Asks q;
            current = f;
            up = u;
          }))
          (sym (picked_one solicited_up l.up (Responds f) f refl))
          (Responses.answers (conversation l) q f was_more more awaited last_is number ended waits (s.solicited o));
      agrees = λ o m. answer_agrees l.phase l.current f q l.master (Responses.is_heard (conversation l) q was_more last_is (s.solicited o)) number
          (s.agrees o m);
      unsolicited = λ o.
          subst (λ (u : List SentFragment). Unsolicited (record (reporting_of l) { up = u })) (sym (picked_none report_up l.up (Responds f) refl))
          (s.unsolicited o);
    }

pub repeated_stands : (l : LawLink) (q : List ℕ) (octets upto : List ℕ) (more : Bool) (awaited : Option Awaited) →
    l.outstation.last ≡ Some (record { request = q; reply = FirstSent octets upto; more = more }) →
    (awaited ≡ l.outstation.awaited) ⊎ (awaited ≡ Some (record { seq = seq_in q; upto = upto })) → CarriesLaw l → CarriesLaw (repeated awaited l)
repeated_stands l q octets upto more awaited last_is waits s =
    record {
      rows = EventMoves.rows_again (inventory l) (Responds l.current) (s.rows.current.rows, s.rows.current.says) s.rows;
      commands = s.commands;
      solicited = λ o.
          subst (λ (u : List SentFragment). Solicited (record (conversation l) { awaited = awaited; up = u }))
          (sym (picked_one solicited_up l.up (Responds l.current) l.current refl))
          (Responses.answers_again (conversation l) q octets upto more awaited last_is waits (s.solicited o));
      agrees = s.agrees;
      unsolicited = λ o.
          subst (λ (u : List SentFragment). Unsolicited (record (reporting_of l) { up = u }))
          (sym (picked_none report_up l.up (Responds l.current) refl)) (s.unsolicited o);
    }

-- ---- confirms

pub confirmed_stands : (l : LawLink) (w : Awaited) (rest : List Down) → l.down ≡ Confirms w.seq ∷ rest → l.outstation.is_open ≡ true →
    l.outstation.awaited ≡ Some w → CarriesLaw l → CarriesLaw (confirmed w l)
confirmed_stands l w rest down_is opens waits s =
    let v : Conversation = conversation l in
    let wait : (w.seq ≡ seq_of l.current) × (w.upto ≡ l.current.upto) = subst (λ (o : Option Awaited). MayAwait l.current o) waits
    (s.solicited opens).wait in
    let downs : v.down ≡ Confirms (seq_of l.current) ∷ picked solicited_down rest =
    ap (picked solicited_down) down_is ∙ ap (λ (n : ℕ). Confirms n ∷ picked solicited_down rest) wait.0 in
    let came : AllIn l.current.rows l.took = Responses.is_taken v (picked solicited_down rest) downs (s.solicited opens) in
    record {
      rows = EventMoves.rows_released (inventory l) w.upto
          (Offers.upto_taken false l.lanes l.stood l.took l.last_id l.current w.upto wait.1 s.rows.current came) s.rows;
      commands = s.commands;
      solicited = λ o. Responses.waits_no_longer v (s.solicited o);
      agrees = s.agrees;
      unsolicited = s.unsolicited;
    }

gone_on_agrees : (phase : Phase) (c f : SentFragment) (m : LawMaster) → phase ≡ Continuing → seq_of f ≡ after (seq_of c) → Agrees phase c m →
    Agrees Responding f m
gone_on_agrees phase c f m e number a =
    let b : Agrees Continuing c m = subst (λ (t : Phase). Agrees t c m) e a in
    (b.0, b.1 ∙ sym number)

pub continued_stands : (l : LawLink) (a : LastRequest) (rest : List Down) (f : SentFragment) (more : Bool) (awaited : Option Awaited) →
    l.down ≡ Confirms (seq_of l.current) ∷ rest → l.outstation.last ≡ Some a → a.more ≡ true → seq_of f ≡ after (seq_of l.current) →
    IsOffered false l.lanes l.last_id f → (more ≡ true → fin_of f ≡ false) → MayAwait f awaited → CarriesLaw l →
    CarriesLaw (continued a.request f more awaited l)
continued_stands l a rest f more awaited down_is last_is more_left number offered ended waits s =
    let v : Conversation = conversation l in
    let downs : v.down ≡ Confirms (seq_of l.current) ∷ picked solicited_down rest = ap (picked solicited_down) down_is in
    record {
      rows = EventMoves.rows_sent (inventory l) f offered s.rows;
      commands = not_asked l.outstation.is_open Responding l.asked l.performed (λ p e. absurd (cc)) s.commands.covered;
      solicited = λ o.
          subst (λ (u : List SentFragment). Solicited
          (record v {
            last = Some (record { request = a.request; reply = FurtherSent; more = more });
            awaited = awaited;
            phase = Responding;
            trigger = Confirms (seq_of l.current);
            current = f;
            up = u;
          }))
          (sym (picked_one solicited_up l.up (Responds f) f refl))
          (Responses.goes_on v a (picked solicited_down rest) f more awaited downs last_is more_left number ended waits (s.solicited o));
      agrees = λ o m. gone_on_agrees l.phase l.current f l.master
          (Responses.is_going v a (picked solicited_down rest) downs last_is more_left (s.solicited o)).0 number (s.agrees o m);
      unsolicited = λ o.
          subst (λ (u : List SentFragment). Unsolicited (record (reporting_of l) { up = u })) (sym (picked_none report_up l.up (Responds f) refl))
          (s.unsolicited o);
    }

pub report_confirmed_stands : (l : LawLink) (w : AwaitedReport) (rest : List Down) → l.down ≡ ConfirmsReport w.seq ∷ rest →
    l.outstation.is_open ≡ true → l.outstation.report ≡ Some w → CarriesLaw l → CarriesLaw (report_confirmed w l)
report_confirmed_stands l w rest down_is opens waits s =
    let v : Reporting = reporting_of l in
    let r : SentFragment = l.reported in
    let wait : IsOfReport r w =
    subst (λ (o : Option AwaitedReport). IfSome o (λ x. IsOfReport r x)) waits
    (s.unsolicited opens).wait in
    let downs : v.down ≡ w.seq ∷ picked report_down rest = ap (picked report_down) down_is in
    let came : AllIn r.rows l.took = ReportMoves.report_taken_before v w (picked report_down rest) downs waits (s.unsolicited opens) in
    record {
      rows = EventMoves.rows_released (inventory l) w.upto
          (Offers.upto_taken true l.lanes l.stood l.took l.last_id r w.upto wait.2 s.rows.reported came) s.rows;
      commands = s.commands;
      solicited = s.solicited;
      agrees = s.agrees;
      unsolicited = λ o. ReportMoves.waits_no_longer v w (picked report_down rest) downs waits (s.unsolicited o);
    }

pub stopped_waiting_stands : (l : LawLink) → CarriesLaw l → CarriesLaw (stopped_waiting l)
stopped_waiting_stands l s =
    record {
      rows = s.rows;
      commands = s.commands;
      solicited = λ o. Responses.waits_no_longer (conversation l) (s.solicited o);
      agrees = s.agrees;
      unsolicited = s.unsolicited;
    }

-- ---- unsolicited responses

pub report_sent_stands : (l : LawLink) (f : SentFragment) → l.outstation.report ≡ None → seq_of f ≡ l.outstation.next →
    IsOffered true l.lanes l.last_id f → CarriesLaw l → CarriesLaw (report_sent f l)
report_sent_stands l f none number offered s =
    record {
      rows = EventMoves.rows_reported (inventory l) f offered s.rows;
      commands = s.commands;
      solicited = λ o.
          subst (λ (u : List SentFragment). Solicited (record (conversation l) { up = u })) (sym (picked_none solicited_up l.up (Reports f) refl))
          (s.solicited o);
      agrees = s.agrees;
      unsolicited = λ o.
          subst (λ (u : List SentFragment). Unsolicited
          (record (reporting_of l) {
            report = Some
                (record { octets = f.octets; seq = seq_of f; upto = f.upto });
            next = after l.outstation.next;
            reported = f;
            up = u;
          }))
          (sym (picked_one report_up l.up (Reports f) f refl)) (ReportMoves.starts (reporting_of l) f none number (s.unsolicited o));
    }

pub report_repeated_stands : (l : LawLink) (w : AwaitedReport) → l.outstation.report ≡ Some w → CarriesLaw l → CarriesLaw (report_repeated l)
report_repeated_stands l w waits s =
    record {
      rows = EventMoves.rows_again (inventory l) (Reports l.reported) (s.rows.reported.rows, s.rows.reported.says) s.rows;
      commands = s.commands;
      solicited = λ o.
          subst (λ (u : List SentFragment). Solicited (record (conversation l) { up = u }))
          (sym (picked_none solicited_up l.up (Reports l.reported) refl)) (s.solicited o);
      agrees = s.agrees;
      unsolicited = λ o.
          subst (λ (u : List SentFragment). Unsolicited (record (reporting_of l) { up = u }))
          (sym (picked_one report_up l.up (Reports l.reported) l.reported refl))
          (ReportMoves.reports_again (reporting_of l) w waits (s.unsolicited o));
    }
