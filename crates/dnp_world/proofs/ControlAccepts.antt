-- A control that goes over one link in whole fragments: what its two steps perform, and what the book is told.
use Rattle.std.proofs.Common.{◌≡◌, ℕ, ◌<◌, Bool, true, false, ◌==◌, List, [], ◌∷◌, ◌++◌, Option, Some, None, refl, ap, ◌∙◌, subst, append-nil, arith, eqb-true}
use Rattle.std.specs.Prelude.{◌≢◌, if◌then◌else◌, is_none, slice_index}
use Rattle.std.specs.Option.{option_and_then}
use Rattle.std.proofs.lemmas.Bool.{and_parts, eqb-false}
use Rattle.dnp_appfragment.specs.Fragments.{request_octets}
use Rattle.dnp_appfragment.specs.declared.function.Function.TheVariants as function
use Rattle.dnp_concentrator.specs.Relaying.{Relaying, Step, Waits, Selects, Operates, Finishes, ledger_after, relaying_after, step_by, step_of, step_of_entry}
use Rattle.dnp_concentrator.specs.declared.progress.Stage.{Stage}
use Rattle.dnp_concentrator.specs.declared.progress.Stage.TheVariants as stage
use Rattle.dnp_controls.specs.Book.{Ledger, finished, next_of, spent}
use Rattle.dnp_controls.specs.declared.book.Entry.{Entry}
use Rattle.dnp_controls.specs.declared.book.State.TheVariants.{Spent, Finished}
use Rattle.dnp_master.specs.Calls.{asked, asked_by, asking, is_selected, may_follow}
use Rattle.dnp_master.specs.Requests.{is_good, request_for}
use Rattle.dnp_master.specs.State as master
use Rattle.dnp_master.specs.State.{is_idle}
use Rattle.dnp_master.specs.declared.task.Task.{Task}
use Rattle.dnp_master.specs.declared.task.Task.TheVariants as task
use Rattle.dnp_objects.specs.Status.{success}
use Rattle.dnp_objects.specs.declared.command.Command.{Command}
use Rattle.dnp_world.specs.CommandWidths.{HasWidths}
use Rattle.dnp_world.specs.ControlAnswers.{Awaits, WasAsked}
use Rattle.dnp_world.specs.ControlExchanges.{AnswersAll, CanBegin, ChecksAs, ExchangeEnds, GoesOver, HasSelected, HearsAnswers, OperateComesTo, Refused, SelectComesTo, Stands, next_step, status_at}
use Rattle.dnp_world.specs.Controls.{found_in, status_in}
use Rattle.dnp_world.specs.Octets.{after}
use Rattle.dnp_world.specs.SystemEvents.{IsRefused, requests_of}
use Rattle.dnp_world.proofs.Books.{put}
use Rattle.dnp_world.proofs.ControlAnswers.{asking as request_as}
use Rattle.dnp_world.proofs.ControlArrivals.{AreConfirms, ControlLaws, Operated, Quiet, Selected, Unmoved, confirms_come, hears_answer, hears_reports, heard_status, operate_comes, other_asked, select_comes}
use Rattle.dnp_world.proofs.ControlBooks.{found_put}
use Rattle.dnp_world.proofs.ControlHearing.{SameLaw}
use Rattle.dnp_world.proofs.MasterAsks.{answers_idle}

-- ---- a master that is asked

-- an idle master is asked what may follow
asked_is : (s : master.State) (now : ℕ) (t : Task) → is_idle s ≡ true → may_follow s.selected t ≡ true → is_good t ≡ true → asked s now t ≡ asking s now t
asked_is s now t idle follows good = ap (asked_by s now t) (answers_idle s t idle follows good)

-- and awaits the response
awaits_it : (s : master.State) (now : ℕ) (t : Task) → is_idle s ≡ true → s.seq < 16 → Awaits t (asking s now t)
awaits_it s now t idle low =
    let parts = and_parts s.is_open (is_none s.request) idle in
    record { is_open = parts.0; number = low; request = _; there = refl; task_is = refl; new = refl; nothing = refl }

-- the link whose control was asked for so
abbrev sending_it : Relaying → ℕ → Task → ℕ → Command → Stage → Relaying
sending_it r now t id command stage = record { master = asking r.master now t; progress = Some (record { id = id; command = command; stage = stage }) }

-- ---- the book

pub status_told : (book : Ledger) (id : ℕ) (e : Entry) (status : ℕ) → found_in book.entries id ≡ Some e → status_at (finished book id status) id ≡ Some status
status_told book id e status found =
    ap (λ (o : Option Entry). option_and_then (λ (e : Entry). status_in e.state) o) (found_put book.entries id e (Finished status) found)

-- ---- the SELECT

-- the step after a SELECT that was answered with another status
told_next : (target : ℕ) (entry : Entry) (ends : ExchangeEnds) (r : Relaying) (status : ℕ) → ends.link ≡ heard_status r (task.Select entry.command) status
    → r.progress ≡ Some (record { id = entry.id; command = entry.command; stage = stage.Selecting }) → r.master.is_open ≡ true
    → (status == success) ≡ false → next_step target ends ≡ Finishes entry.id status
told_next target entry ends r status link_is progress opens other =
    ap (λ (x : Relaying). step_of x ends.book.entries target) link_is ∙ rw (opens, progress) (rw other refl)

-- an OPERATE is another request
not_select : (seq number : ℕ) (command : Command) → request_as seq function.Operate command ≢ request_octets (request_for number (task.Select command))
not_select seq number command e = let codes : 4 ≡ 3 = ap (λ (xs : List ℕ). slice_index xs 1) e in omega (arith, codes)

stands : (entry : Entry) (ends : ExchangeEnds) (r : Relaying) (seq status : ℕ) → ends.link ≡ heard_status r (task.Select entry.command) status
    → r.progress ≡ Some (record { id = entry.id; command = entry.command; stage = stage.Selecting }) → r.master.is_open ≡ true
    → (status == success) ≡ true → found_in ends.book.entries entry.id ≡ Some entry → HasWidths entry.command
    → WasAsked (request_octets (request_for seq (task.Select entry.command))) ends.station.core → AreConfirms ends.going → HasSelected entry ends
stands entry ends r seq status link_is progress opens good found widths asked confirms =
    let idle : is_idle ends.link.master ≡ true = ap (λ (x : Relaying). is_idle x.master) link_is ∙ rw opens refl in
    let number : ends.link.master.seq ≡ after r.master.seq = ap (λ (x : Relaying). x.master.seq) link_is in
    record {
      idle = idle;
      number = omega (arith, number);
      progress = ap (λ (x : Relaying). x.progress) link_is ∙ rw progress (rw good refl);
      selected = ap (λ (x : Relaying). x.master.selected) link_is ∙ rw (eqb-true status 0 good) refl;
      found = found;
      widths = widths;
      new = record {
        is_open = asked.is_open;
        other = other_asked ends.station.core (request_as ends.link.master.seq function.Operate entry.command)
            (request_octets (request_for seq (task.Select entry.command))) asked (not_select ends.link.master.seq seq entry.command);
        holds_none = asked.holds_none;
        number = asked.number;
      };
      confirms = confirms;
    }

pub record Began (target check : ℕ) (entry : Entry) (commands : List Command) (ends : ExchangeEnds) : Type 0 where
  pub none : commands ≡ []
  pub comes : SelectComesTo target check entry ends

pub select_goes : ControlLaws → (target now check : ℕ) (entry : Entry) (old selected : ExchangeEnds) (commands : List Command) → check < 128
    → CanBegin target entry old → GoesOver target now (ChecksAs entry.command check) commands old selected → Began target check entry commands selected
select_goes laws target now check entry old selected commands low can g =
    let c : Command = entry.command in
    let seq : ℕ = old.link.master.seq in
    let q : List ℕ = request_as seq function.Select c in
    let step_is : next_step target old ≡ Selects entry.id c = can.selects in
    let link : Relaying = sending_it old.link now (task.Select c) entry.id c stage.Selecting in
    let link_is : relaying_after old.link now (next_step target old) ≡ link =
    ap (relaying_after old.link now) step_is
    ∙ ap (λ (m : master.State). record { master = m; progress = Some (record { id = entry.id; command = c; stage = stage.Selecting }) })
    (asked_is old.link.master now (task.Select c) can.idle refl refl) in
    let fragments_are : old.going ++ requests_of (next_step target old) seq ≡ q ∷ [] =
    ap (λ (xs : List (List ℕ)). xs ++ requests_of (next_step target old) seq) can.clear ∙ ap (λ (s : Step). requests_of s seq) step_is in
    let sel : Selected c seq check selected.station g.sent commands =
    select_comes laws now seq check c old.station selected.station g.sent commands can.number can.widths low can.is_open can.reports can.other
    (subst (λ (xs : List (List ℕ)). AnswersAll now (ChecksAs c check) xs old.station selected.station g.sent commands) fragments_are g.answered) in
    let heard : HearsAnswers now (sel.sends.before ++ sel.sends.response ∷ sel.sends.behind) link selected.link selected.going =
    subst (λ (xs : List (List ℕ)). HearsAnswers now xs link selected.link selected.going) sel.sends.is
    (subst (λ (r : Relaying). HearsAnswers now g.sent r selected.link selected.going) link_is g.heard) in
    let unmoved : Unmoved (heard_status link (task.Select c) check) selected.link selected.going =
    hears_answer laws now check (task.Select c) c sel.sends.before sel.sends.response sel.sends.behind link selected.link selected.going refl can.widths
    (awaits_it old.link.master now (task.Select c) can.idle can.number) sel.sends.before_are sel.sends.behind_are sel.sends.repeats heard in
    let opens : old.link.master.is_open ≡ true = (and_parts old.link.master.is_open (is_none old.link.master.request) can.idle).0 in
    let book_is : selected.book ≡ old.book = g.told ∙ ap (ledger_after old.book) step_is in
    let found : found_in selected.book.entries entry.id ≡ Some entry =
    ap (λ (b : Ledger). found_in b.entries entry.id) book_is ∙ can.found in
    record { none = sel.none; comes = by link refl opens unmoved sel.sends.asked found (check == success) refl }
  where
    by : (link : Relaying) → link.progress ≡ Some (record { id = entry.id; command = entry.command; stage = stage.Selecting })
        → link.master.is_open ≡ true → Unmoved (heard_status link (task.Select entry.command) check) selected.link selected.going
        → WasAsked (request_octets (request_for old.link.master.seq (task.Select entry.command))) selected.station.core
        → found_in selected.book.entries entry.id ≡ Some entry → (b : Bool) → (check == success) ≡ b → SelectComesTo target check entry selected
    by link progress opens unmoved asked found true e =
        Stands (eqb-true check 0 e) old.link.master.seq asked
        (stands entry selected link old.link.master.seq check unmoved.same progress opens e found can.widths asked unmoved.are)
    by link progress opens unmoved asked found false e =
        let next : next_step target selected ≡ Finishes entry.id check = told_next target entry selected link check unmoved.same progress opens e in
        Refused (eqb-false check 0 e) next
        (ap (λ (s : Step). status_at (ledger_after selected.book s) entry.id) next ∙ status_told selected.book entry.id entry check found)

-- ---- the OPERATE

-- the step of a master at which the control stands selected
pub second_step : SameLaw → (target : ℕ) (entry : Entry) (ends : ExchangeEnds) → HasSelected entry ends
    → next_step target ends ≡ Operates entry.id entry.command
second_step same target entry ends has = rw (has.idle, has.progress) (rw has.selected (rw (same entry.command) refl))

finishing : (target : ℕ) (entry : Entry) (ends : ExchangeEnds) (r : Relaying) (status : ℕ) → ends.link ≡ heard_status r (task.Operate entry.command) status
    → r.progress ≡ Some (record { id = entry.id; command = entry.command; stage = stage.Operating }) → r.master.is_open ≡ true
    → next_step target ends ≡ Finishes entry.id status
finishing target entry ends r status link_is progress opens =
    ap (λ (x : Relaying). step_of x ends.book.entries target) link_is ∙ rw (opens, progress) refl

pub operate_goes : ControlLaws → (target now check : ℕ) (entry : Entry) (selected operated : ExchangeEnds) (commands : List Command) → check < 128
    → HasSelected entry selected → GoesOver target now (ChecksAs entry.command check) commands selected operated
    → OperateComesTo target check entry commands operated
operate_goes laws target now check entry selected operated commands low has g =
    let c : Command = entry.command in
    let seq : ℕ = selected.link.master.seq in
    let q : List ℕ = request_as seq function.Operate c in
    let step_is : next_step target selected ≡ Operates entry.id c = second_step laws.same target entry selected has in
    let follows : is_selected selected.link.master.selected c ≡ true = rw has.selected (laws.same c) in
    let link : Relaying = sending_it selected.link now (task.Operate c) entry.id c stage.Operating in
    let link_is : relaying_after selected.link now (next_step target selected) ≡ link =
    ap (relaying_after selected.link now) step_is
    ∙ ap (λ (m : master.State). record { master = m; progress = Some (record { id = entry.id; command = c; stage = stage.Operating }) })
    (asked_is selected.link.master now (task.Operate c) has.idle follows refl) in
    let fragments_are : selected.going ++ requests_of (next_step target selected) seq ≡ selected.going ++ q ∷ [] =
    ap (λ (s : Step). selected.going ++ requests_of s seq) step_is in
    let op : Operated c seq check operated.station g.sent commands =
    operate_comes laws now seq check c selected.going selected.station operated.station g.sent commands has.number has.widths low has.confirms has.new
    (subst (λ (xs : List (List ℕ)). AnswersAll now (ChecksAs c check) xs selected.station operated.station g.sent commands) fragments_are g.answered) in
    let heard : HearsAnswers now (op.sends.before ++ op.sends.response ∷ op.sends.behind) link operated.link operated.going =
    subst (λ (xs : List (List ℕ)). HearsAnswers now xs link operated.link operated.going) op.sends.is
    (subst (λ (r : Relaying). HearsAnswers now g.sent r operated.link operated.going) link_is g.heard) in
    let unmoved : Unmoved (heard_status link (task.Operate c) op.status) operated.link operated.going =
    hears_answer laws now op.status (task.Operate c) c op.sends.before op.sends.response op.sends.behind link operated.link operated.going refl has.widths
    (awaits_it selected.link.master now (task.Operate c) has.idle has.number) op.sends.before_are op.sends.behind_are op.sends.repeats heard in
    let opens : selected.link.master.is_open ≡ true = (and_parts selected.link.master.is_open (is_none selected.link.master.request) has.idle).0 in
    let next : next_step target operated ≡ Finishes entry.id op.status = finishing target entry operated link op.status unmoved.same refl opens in
    let book_is : operated.book ≡ spent selected.book entry.id = g.told ∙ ap (ledger_after selected.book) step_is in
    let found : found_in operated.book.entries entry.id ≡ Some (put Spent entry) =
    ap (λ (b : Ledger). found_in b.entries entry.id) book_is ∙ found_put selected.book.entries entry.id entry Spent has.found in
    record {
      status = op.status;
      performs = op.those;
      checks = op.checks;
      next = next;
      told = ap (λ (s : Step). status_at (ledger_after operated.book s) entry.id) next
          ∙ status_told operated.book entry.id (put Spent entry) op.status found;
      seq = seq;
      asked = op.sends.asked;
      confirms = unmoved.are;
    }

-- ---- what became of it

-- a step that the book takes, and that leaves it alone
pub record LeavesBook (book : Ledger) (step : Step) : Type 0 where
  pub same : ledger_after book step ≡ book
  pub taken : IsRefused book.entries step → ⊥

-- as each step does of a link without a control in progress
pub free_leaves : (book : Ledger) (r : Relaying) (target : ℕ) → r.progress ≡ None → LeavesBook book (step_of r book.entries target)
free_leaves book r target none = by (is_idle r.master)
  where
    of_entry : (o : Option Entry) → LeavesBook book (step_of_entry o)
    of_entry None = record { same = refl; taken = λ refused. refused }
    of_entry (Some e) = record { same = refl; taken = λ refused. refused }

    by : (b : Bool) → LeavesBook book (if b then step_by r.progress r.master.selected book.entries target else Waits)
    by true = rw none (of_entry (next_of book.entries target))
    by false = record { same = refl; taken = λ refused. refused }

pub record Finishing (target : ℕ) (commands : List Command) (ends : ExchangeEnds) : Type 0 where
  pub none : commands ≡ []
  pub leaves : LeavesBook ends.book (next_step target ends)

pub finish_goes : ControlLaws → (target now check : ℕ) (entry : Entry) (operates commands : List Command) (operated new : ExchangeEnds)
    → OperateComesTo target check entry operates operated → GoesOver target now (ChecksAs entry.command check) commands operated new
    → Finishing target commands new
finish_goes laws target now check entry operates commands operated new op g =
    let seq : ℕ = operated.link.master.seq in
    let fragments_are : operated.going ++ requests_of (next_step target operated) seq ≡ operated.going =
    ap (λ (s : Step). operated.going ++ requests_of s seq) op.next ∙ append-nil operated.going in
    let quiet : Quiet g.sent commands =
    confirms_come laws.is_control now (ChecksAs entry.command check)
    (request_octets (request_for op.seq (task.Operate entry.command))) operated.going operated.station
    new.station g.sent commands op.confirms op.asked
    (subst (λ (xs : List (List ℕ)). AnswersAll now (ChecksAs entry.command check) xs operated.station new.station g.sent commands) fragments_are
    g.answered) in
    let link : Relaying = record operated.link { progress = None } in
    let link_is : relaying_after operated.link now (next_step target operated) ≡ link = ap (relaying_after operated.link now) op.next in
    let unmoved : Unmoved link new.link new.going =
    hears_reports now g.sent link new.link new.going quiet.reports
    (subst (λ (r : Relaying). HearsAnswers now g.sent r new.link new.going) link_is g.heard) in
    record { none = quiet.none; leaves = free_leaves new.book new.link target (ap (λ (r : Relaying). r.progress) unmoved.same) }
