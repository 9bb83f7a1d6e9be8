-- Each move of the lanes, of the connection and of the master keeps what stands.
use Rattle.std.proofs.Common.{◌≡◌, ℕ, ◌<◌, Bool, true, false, not, List, [], ◌∷◌, ◌++◌, drop, refl, sym, ap, ◌∙◌, subst, arith}
use Rattle.std.specs.Prelude.{if◌then◌else◌}
use Rattle.std.specs.List.{Contains}
use Rattle.std.specs.List.Sorted.{IsPermutation}
use Rattle.std.proofs.lemmas.List.{append-nil}
use Rattle.std.proofs.lemmas.List.Elements.{All-nil}
use Rattle.dnp_objects.specs.declared.command.Command.{Command}
use Rattle.dnp_objects.specs.Counts.{IsCoveredBy}
use Rattle.dnp_eventbuf.specs.Buffered.{Buffered}
use Rattle.dnp_world.specs.Lists.{picked}
use Rattle.dnp_world.specs.Octets.{after, commands_in, seq_in}
use Rattle.dnp_world.specs.LawLink.{Asks, Confirms, ConfirmsReport, Continuing, Down, SentFragment, Idle, LawLink, LawMaster, LawOutstation, Phase, Received, Reports, Requested, Responding, Responds, Up, con_of, fin_of, report_down, report_up, seq_of, solicited_down, solicited_up}
use Rattle.dnp_world.specs.Moves.{appended, asking, confirm_of, dropped, lost_down, lost_up, nothing_sent, opened, report_taken, taken, with_master, with_outstation}
use Rattle.dnp_world.specs.Standing.{Agrees, Commands, Conversation, IsOnItsWay, Solicited, CarriesLaw, Unsolicited, conversation, expected, inventory, reporting_of}
use Rattle.dnp_world.proofs.Lists.{drop_end, end_none, picked_both, picked_end}
use Rattle.dnp_world.proofs.Counting.{count_by-append, covered_more}
use Rattle.dnp_world.proofs.Beginning.{reported_seq, sent_fin, sent_seq}
use Rattle.dnp_world.proofs.Exchanges
use Rattle.dnp_world.proofs.ReportMoves
use Rattle.dnp_world.proofs.EventMoves

-- ---- what is picked of one more

pub picked_none : {X Y : Type 0} (pick : X → List Y) (xs : List X) (x : X) → pick x ≡ [] → picked pick (xs ++ x ∷ []) ≡ picked pick xs
picked_none pick xs x e =
    picked_both pick xs (x ∷ []) ∙ ap (λ (l : List _). picked pick xs ++ (l ++ [])) e ∙ append-nil (picked pick xs)

pub picked_one : {X Y : Type 0} (pick : X → List Y) (xs : List X) (x : X) (y : Y) → pick x ≡ y ∷ [] →
    picked pick (xs ++ x ∷ []) ≡ picked pick xs ++ y ∷ []
picked_one pick xs x y e = picked_both pick xs (x ∷ []) ∙ ap (λ (l : List _). picked pick xs ++ (l ++ [])) e

-- ---- the lanes

pub appended_stands : (l : LawLink) (x : Buffered) → l.last_id < x.id → CarriesLaw l → CarriesLaw (appended x l)
appended_stands l x newer s =
    record {
      rows = EventMoves.rows_appended (inventory l) x newer s.rows;
      commands = s.commands;
      solicited = s.solicited;
      agrees = s.agrees;
      unsolicited = s.unsolicited;
    }

pub dropped_stands : (l : LawLink) (stay gone : List Buffered) → IsPermutation l.lanes (stay ++ gone) → CarriesLaw l → CarriesLaw (dropped stay gone l)
dropped_stands l stay gone parts s =
    record {
      rows = EventMoves.rows_dropped (inventory l) stay gone parts s.rows;
      commands = s.commands;
      solicited = s.solicited;
      agrees = s.agrees;
      unsolicited = s.unsolicited;
    }

-- ---- the connection

-- nothing is asked
pub not_asked : (is_open : Bool) (phase : Phase) (asked performed : List Command) → ((q : List ℕ) → phase ≡ Requested q → ⊥) →
    IsCoveredBy performed asked → Commands is_open phase asked performed
not_asked is_open phase asked performed never h = record { covered = h; pending = λ o q e. absurd (never q e) }

pub opened_stands : (l : LawLink) → CarriesLaw l → CarriesLaw (opened l)
opened_stands l s =
    record {
      rows = EventMoves.rows_opened (inventory l) s.rows;
      commands = not_asked true Idle l.asked l.performed (λ q e. absurd (cc)) s.commands.covered;
      solicited = λ _.
          record {
            wait = tt;
            reply = tt;
            cause = (sent_fin, sym sent_seq);
            down = end_none (expected Idle (Confirms 14) nothing_sent);
            taken = All-nil (Contains l.took);
            up = tt;
          };
      agrees = λ _ _. (refl, sym (ap (λ (n : ℕ). after n) sent_seq));
      unsolicited = λ _. record { wait = tt; number = sym (ap (λ (n : ℕ). after n) reported_seq); order = tt; taken = tt; up = tt };
    }

pub closed_master_stands : (l : LawLink) (m : LawMaster) → m.is_open ≡ false → CarriesLaw l → CarriesLaw (with_master m l)
closed_master_stands l m closed s =
    record {
      rows = s.rows;
      commands = s.commands;
      solicited = s.solicited;
      agrees = λ o opens. absurd (cc);
      unsolicited = s.unsolicited;
    }

pub closed_outstation_stands : (l : LawLink) (o : LawOutstation) → o.is_open ≡ false → CarriesLaw l → CarriesLaw (with_outstation o l)
closed_outstation_stands l o closed s =
    record {
      rows = s.rows;
      commands = record { covered = s.commands.covered; pending = λ opens q e. absurd (cc) };
      solicited = λ opens. absurd (cc);
      agrees = λ opens e. absurd (cc);
      unsolicited = λ opens. absurd (cc);
    }

pub lost_down_stands : (l : LawLink) (n : ℕ) → CarriesLaw l → CarriesLaw (lost_down n l)
lost_down_stands l n s =
    record {
      rows = s.rows;
      commands = s.commands;
      solicited = λ o. Exchanges.loses_down (conversation l) (picked solicited_down (drop n l.down)) (picked_end solicited_down n l.down)
          (s.solicited o);
      agrees = s.agrees;
      unsolicited = λ o. ReportMoves.loses_down (reporting_of l) (picked report_down (drop n l.down)) (picked_end report_down n l.down)
          (s.unsolicited o);
    }

pub lost_up_stands : (l : LawLink) (n : ℕ) → CarriesLaw l → CarriesLaw (lost_up n l)
lost_up_stands l n s =
    record {
      rows = EventMoves.rows_lost (inventory l) (drop n l.up) (drop_end n l.up) s.rows;
      commands = s.commands;
      solicited = λ o. Exchanges.loses_up (conversation l) (picked solicited_up (drop n l.up)) (picked_end solicited_up n l.up) (s.solicited o);
      agrees = s.agrees;
      unsolicited = λ o. ReportMoves.loses_up (reporting_of l) (picked report_up (drop n l.up)) (picked_end report_up n l.up) (s.unsolicited o);
    }

-- ---- the master asks

idle_rests : (phase : Phase) (c : SentFragment) (m : LawMaster) → m.is_busy ≡ false → Agrees phase c m → (phase ≡ Idle) × (m.seq ≡ after (seq_of c))
idle_rests Idle c m idle a = (refl, a.1)
idle_rests (Requested q) c m idle a = let busy : m.is_busy ≡ true = a.0 in absurd (cc)
idle_rests (Received q) c m idle a = let busy : m.is_busy ≡ true = a.0 in absurd (cc)
idle_rests Responding c m idle a = let busy : m.is_busy ≡ true = a.0 in absurd (cc)
idle_rests Continuing c m idle a = let busy : m.is_busy ≡ true = a.0 in absurd (cc)

asked_commands : (is_open : Bool) (phase : Phase) (asked performed : List Command) (q : List ℕ) → Commands is_open phase asked performed →
    Commands is_open (Requested q) (asked ++ (commands_in q)) performed
asked_commands is_open phase asked performed q h =
    record {
      covered = covered_more performed asked (commands_in q) h.covered;
      pending = λ o p e.
          let same : q ≡ p = cc in
          subst (λ (r : List ℕ). IsCoveredBy ((commands_in r) ++ performed) (asked ++ (commands_in q))) same
          record {
            at_most = λ test. omega (
              arith,
              h.covered.at_most test,
              count_by-append test (commands_in q) performed,
              count_by-append test asked (commands_in q),
            );
          };
    }

pub asking_stands : (l : LawLink) (q : List ℕ) → l.master.is_open ≡ true → l.master.is_busy ≡ false → seq_in q ≡ l.master.seq → CarriesLaw l →
    CarriesLaw (asking q l)
asking_stands l q opens idle number s =
    record {
      rows = s.rows;
      commands = asked_commands l.outstation.is_open l.phase l.asked l.performed q s.commands;
      solicited = λ o.
          let rests : (l.phase ≡ Idle) × (l.master.seq ≡ after (seq_of l.current)) = idle_rests l.phase l.current l.master idle (s.agrees o opens) in
          subst (λ (d : List Down). Solicited (record (conversation l) { phase = Requested q; down = d }))
          (sym (picked_one solicited_down l.down (Asks q) (Asks q) refl))
          (Exchanges.asks (conversation l) q rests.0 (number ∙ rests.1) (s.solicited o));
      agrees = λ o _. (refl, sym number);
      unsolicited = λ o.
          subst (λ (d : List ℕ). Unsolicited (record (reporting_of l) { down = d })) (sym (picked_none report_down l.down (Asks q) refl))
          (s.unsolicited o);
    }

-- ---- the master takes

taken_agrees : (fin busy : Bool) (c : SentFragment) (m : LawMaster) → m.is_busy ≡ not fin → m.seq ≡ after (seq_of c) →
    Agrees (if fin then Idle else Continuing) c m
taken_agrees true busy c m e number = (e, number)
taken_agrees false busy c m e number = (e, number)

taken_never_asked : (fin : Bool) (q : List ℕ) → (if fin then Idle else Continuing) ≡ Requested q → ⊥
taken_never_asked true q e = cc
taken_never_asked false q e = cc

confirm_solicited : (con : Bool) (down : List Down) (s : ℕ) →
    picked solicited_down (down ++ (if con then Confirms s ∷ [] else [])) ≡ picked solicited_down down ++ (if con then Confirms s ∷ [] else [])
confirm_solicited true down s = picked_one solicited_down down (Confirms s) (Confirms s) refl
confirm_solicited false down s = picked_both solicited_down down []

confirm_solicited_none : (con : Bool) (down : List Down) (s : ℕ) →
    picked report_down (down ++ (if con then Confirms s ∷ [] else [])) ≡ picked report_down down
confirm_solicited_none true down s = picked_none report_down down (Confirms s) refl
confirm_solicited_none false down s = ap (picked report_down) (append-nil down)

confirm_unsolicited_none : (con : Bool) (down : List Down) (s : ℕ) →
    picked solicited_down (down ++ (if con then ConfirmsReport s ∷ [] else [])) ≡ picked solicited_down down
confirm_unsolicited_none true down s = picked_none solicited_down down (ConfirmsReport s) refl
confirm_unsolicited_none false down s = ap (picked solicited_down) (append-nil down)

pub taken_stands : (l : LawLink) (f : SentFragment) (rest : List Up) → l.up ≡ Responds f ∷ rest → l.master.is_open ≡ true → l.master.is_busy ≡ true →
    seq_of f ≡ l.master.seq → CarriesLaw l → CarriesLaw (taken f l)
taken_stands l f rest up_is opens busy number s =
    let v : Conversation = conversation l in
    let ups : v.up ≡ f ∷ picked solicited_up rest = ap (picked solicited_up) up_is in
    let is : l.outstation.is_open ≡ true → (l.phase ≡ Responding) × (f ≡ l.current) = λ o.
    Exchanges.owed l.phase l.trigger l.outstation.last l.current f (picked solicited_up rest) l.master (s.solicited o).cause
    (s.agrees o opens) busy number
    (subst (λ (u : List SentFragment). IsOnItsWay l.phase l.current u) ups (s.solicited o).up) in
    record {
      rows = EventMoves.rows_taken (inventory l) (Responds f) rest up_is s.rows;
      commands = not_asked l.outstation.is_open (if (fin_of f) then Idle else Continuing) l.asked l.performed
          (taken_never_asked (fin_of f)) s.commands.covered;
      solicited = λ o.
          let came : (l.phase ≡ Responding) × (f ≡ l.current) = is o in
          subst (λ (d : List Down). Solicited (record v { phase = if (fin_of f) then Idle else Continuing; down = d; took = l.took ++ f.rows }))
          (sym (confirm_solicited (con_of f) l.down (seq_of f)))
          (subst (λ (g : SentFragment). Solicited
          (record v {
            phase = if (fin_of g) then Idle else Continuing;
            down = v.down ++ confirm_of g
                (Confirms (seq_of g));
            took = l.took ++ g.rows;
          })) (sym came.1)
          (Exchanges.takes v (picked solicited_up rest) (fin_of l.current) refl came.0
          (subst (λ (g : SentFragment). v.up ≡ g ∷ picked solicited_up rest) came.1 ups) (s.solicited o)));
      agrees = λ o _. taken_agrees (fin_of f) true l.current (taken f l).master refl
          (ap (λ (n : ℕ). after n) (sym number ∙ ap (λ (g : SentFragment). seq_of g) (is o).1));
      unsolicited = λ o.
          subst (λ (d : List ℕ). Unsolicited (record (reporting_of l) { down = d; took = l.took ++ f.rows }))
          (sym (confirm_solicited_none (con_of f) l.down (seq_of f)))
          (ReportMoves.takes_more (reporting_of l) f.rows (s.unsolicited o));
    }

report_taken_unsolicited : (l : LawLink) (f : SentFragment) (rest : List SentFragment) (con : Bool) → picked report_up l.up ≡ f ∷ rest →
    Unsolicited (reporting_of l) →
    Unsolicited (record (reporting_of l) {
      down = picked report_down
          (l.down ++ (if con then ConfirmsReport (seq_of f) ∷ [] else []));
      took = l.took ++ f.rows;
    })
report_taken_unsolicited l f rest true up_is u =
    subst (λ (d : List ℕ). Unsolicited (record (reporting_of l) { down = d; took = l.took ++ f.rows }))
    (sym (picked_one report_down l.down (ConfirmsReport (seq_of f)) (seq_of f) refl))
    (ReportMoves.confirms (reporting_of l) f rest up_is u)
report_taken_unsolicited l f rest false up_is u =
    subst (λ (d : List Down). Unsolicited (record (reporting_of l) { down = picked report_down d; took = l.took ++ f.rows }))
    (sym (append-nil l.down))
    (ReportMoves.takes_more (reporting_of l) f.rows u)

pub report_taken_stands : (l : LawLink) (f : SentFragment) (rest : List Up) → l.up ≡ Reports f ∷ rest → CarriesLaw l → CarriesLaw (report_taken f l)
report_taken_stands l f rest up_is s =
    record {
      rows = EventMoves.rows_taken (inventory l) (Reports f) rest up_is s.rows;
      commands = s.commands;
      solicited = λ o.
          subst (λ (d : List Down). Solicited (record (conversation l) { down = d; took = l.took ++ f.rows }))
          (sym (confirm_unsolicited_none (con_of f) l.down (seq_of f)))
          (Exchanges.takes_others (conversation l) f.rows (s.solicited o));
      agrees = s.agrees;
      unsolicited = λ o. report_taken_unsolicited l f (picked report_up rest) (con_of f) (ap (picked report_up) up_is) (s.unsolicited o);
    }
