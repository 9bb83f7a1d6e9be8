-- What a step of relaying makes of the book, and what it is to the link.
use Rattle.std.proofs.Common.{◌≡◌, ℕ, ◌<◌, List, [], ◌∷◌, ◌++◌, map, Option, Some, None, IfSome, Result, Ok, Err, refl, ap, ◌∙◌, subst, arith}
use Rattle.std.specs.Prelude.{IsTrue, ⊤}
use Rattle.std.specs.Option.{IsSomeAnd}
use Rattle.dnp_objects.specs.Counts.{IsCoveredBy}
use Rattle.dnp_objects.specs.declared.command.Command.{Command}
use Rattle.dnp_appfragment.specs.Fragments.{request_octets}
use Rattle.dnp_controls.specs.Book.{Ledger, entry_of, is_pending}
use Rattle.dnp_controls.specs.declared.book.Entry.{Entry}
use Rattle.dnp_controls.specs.declared.book.State.TheVariants.{Spent, Finished}
use Rattle.dnp_concentrator.specs.Relaying.{Relaying, Step, Waits, Selects, Operates, Finishes, ledger_after, relaying_after, step_of}
use Rattle.dnp_concentrator.specs.declared.progress.Progress.{Progress}
use Rattle.dnp_master.specs.Calls.{ask_answer, asked, asked_by}
use Rattle.dnp_master.specs.Requests.{request_for}
use Rattle.dnp_master.specs.State as master
use Rattle.dnp_master.specs.declared.fault.AskFault.{AskFault}
use Rattle.dnp_master.specs.declared.task.Task.{Task}
use Rattle.dnp_master.specs.declared.task.Task.TheVariants as task
use Rattle.dnp_outstation.specs.State.{State}
use Rattle.dnp_world.specs.Channels.{ChannelState, GoDown}
use Rattle.dnp_world.specs.CommandWidths.{HasWidths}
use Rattle.dnp_world.specs.ControlsInStep.{GoesWith, IsOfEntry}
use Rattle.dnp_world.specs.Joined.{Follows, Joined}
use Rattle.dnp_world.specs.LawLink.{LawLink}
use Rattle.dnp_world.specs.Octets.{commands_in}
use Rattle.dnp_world.specs.OneLinkEvents.{IsAsked, LinkState}
use Rattle.dnp_world.specs.SystemEvents.{IsGranted, requests_of}
use Rattle.dnp_world.specs.SystemStanding.{RowLists, points_asked, seen}
use Rattle.dnp_world.proofs.BelowCalls.{none_goes}
use Rattle.dnp_world.proofs.BelowKeeps.{none_used, some_of}
use Rattle.dnp_world.proofs.Books.{IsOfCommand, in_state_same, in_state_used, picked_used, spent_used}
use Rattle.dnp_world.proofs.Counting.{count_by-append}
use Rattle.dnp_world.proofs.JoinedOctets.{AreOctets}
use Rattle.dnp_world.proofs.JoinedSteps.{stays_as}
use Rattle.dnp_world.proofs.MasterAsks.{answers_idle}
use Rattle.dnp_world.proofs.RelaySteps.{IfSends, in_progress, operates_from, selects_from}

-- what laws promise of requests that commands have
pub record RequestLaws : Type 0 where
  pub selects : (seq : ℕ) (command : Command) → seq < 16 → HasWidths command → AreOctets (request_octets (request_for seq (task.Select command)))
  pub operates : (seq : ℕ) (command : Command) → seq < 16 → HasWidths command → AreOctets (request_octets (request_for seq (task.Operate command)))
  pub selected : (seq : ℕ) (command : Command) → seq < 16 → commands_in (request_octets (request_for seq (task.Select command))) ≡ []
  pub operated : (seq : ℕ) (command : Command) → seq < 16 → HasWidths command
      → commands_in (request_octets (request_for seq (task.Operate command))) ≡ command ∷ []
  pub goes : (s new : LinkState ⊤) (t : Task) (octets : List ℕ) (l : LawLink) → AreOctets (request_octets (request_for s.master.seq t)) → Joined [] s l
      → ask_answer s.master t ≡ Ok octets → IsAsked t octets s new → Follows [] [] (commands_in octets) s.outstation.performed l new

-- the commands that the step asks for
abbrev pub asked_in : Step → List Command
asked_in Waits = []
asked_in (Selects id command) = []
asked_in (Operates id command) = command ∷ []
asked_in (Finishes id status) = []

-- ---- the book

-- the commands in it stay
pub book_same : {A : Type 0} (pick : Entry → A) → IsOfCommand pick → (book : Ledger) (step : Step)
    → map pick (ledger_after book step).entries ≡ map pick book.entries
book_same pick same book Waits = refl
book_same pick same book (Selects id command) = refl
book_same pick same book (Operates id command) = in_state_same pick same book.entries id Spent
book_same pick same book (Finishes id status) = in_state_same pick same book.entries id (Finished status)

-- what is asked for is used of it from then on
pub book_used : {A : Type 0} (pick : Entry → A) (of : Command → A) → IsOfCommand pick → (r : Relaying) (book : Ledger) (target : ℕ) (step : Step)
    → step_of r book.entries target ≡ step → ((e : Entry) → e.target ≡ target → pick e ≡ of e.command) → IfSome r.progress (GoesWith book target)
    → IsGranted book.entries step
    → IsCoveredBy (picked_used pick book.entries ++ map of (asked_in step)) (picked_used pick (ledger_after book step).entries)
book_used pick of same r book target Waits is picks goes pending = none_used (picked_used pick book.entries)
book_used pick of same r book target (Selects id command) is picks goes pending = none_used (picked_used pick book.entries)
book_used {A} pick of same r book target (Operates id command) is picks goes pending =
    let (idle, chosen, (p, there, ids, commands)) = operates_from r book.entries target id command is in
    by p ids commands (in_progress r book target p there goes) (entry_of book.entries id) refl pending
  where
    Covers : A → Type 0
    Covers x = IsCoveredBy (picked_used pick book.entries ++ x ∷ []) (picked_used pick (ledger_after book (Operates id command)).entries)

    by : (p : Progress) → p.id ≡ id → p.command ≡ command → GoesWith book target p → (o : Option Entry) → entry_of book.entries id ≡ o
        → IsSomeAnd o (λ e. IsTrue (is_pending e.state)) → Covers (of command)
    by p ids commands g None found has = absurd has
    by p ids commands g (Some e) found has =
        let fits : IsOfEntry target p e =
        some_of (IsOfEntry target p) (entry_of book.entries p.id) e (ap (entry_of book.entries) ids ∙ found) g.entry in
        subst Covers (picks e fits.0 ∙ ap of (fits.1 ∙ commands)) (spent_used pick same book.entries id e found has)
book_used pick of same r book target (Finishes id status) is picks goes pending = record {
  at_most = λ test.
      omega (
        arith,
        count_by-append test (picked_used pick book.entries) [],
        (in_state_used pick same book.entries id (Finished status) refl).at_most test,
      );
}

-- ---- the request

-- the link by itself, with these lines and this master
abbrev at_lines : State → RowLists → ℕ → master.State → ChannelState → LinkState ⊤
at_lines o lists now m lines = seen o m lines now lists

request_goes : RequestLaws → (o : State) (lists : RowLists) (now : ℕ) (m : master.State) (was is : ChannelState) (l : LawLink) (t : Task)
    → (let octets : List ℕ = request_octets (request_for m.seq t) in AreOctets octets → ask_answer m t ≡ Ok octets
    → Joined [] (at_lines o lists now m was) l → GoDown (octets ∷ []) was is
    → Follows [] [] (commands_in octets) o.performed l (at_lines o lists now (asked m now t) is))
request_goes laws o lists now m was is l t low answer j down =
    let octets : List ℕ = request_octets (request_for m.seq t) in
    laws.goes (at_lines o lists now m was) (at_lines o lists now (asked m now t) is) t octets l low j answer (record { goes = down; after = refl })

-- the link moves by what the step asks for
pub step_goes : RequestLaws → (o : State) (lists : RowLists) (now : ℕ) (r : Relaying) (entries : List Entry) (target : ℕ)
    → (was is : ChannelState) (l : LawLink) (step : Step)
    → step_of r entries target ≡ step → IfSends step HasWidths → Joined [] (seen o r.master was now lists) l
    → GoDown (requests_of step r.master.seq) was is
    → Follows [] [] (asked_in step) o.performed l (seen o (relaying_after r now step).master is now lists)
step_goes laws o lists now r entries target was is l Waits from widths j down =
    stays_as [] l (at_lines o lists now r.master is) (at_lines o lists now r.master was)
    (ap (at_lines o lists now r.master) (none_goes was is down)) j
step_goes laws o lists now r entries target was is l (Selects id command) from widths j down =
    let (idle, origin) = selects_from r entries target id command from in
    subst (λ (asks : List Command). Follows [] [] asks o.performed l (at_lines o lists now (asked r.master now (task.Select command)) is))
    (laws.selected r.master.seq command j.number)
    (request_goes laws o lists now r.master was is l (task.Select command) (laws.selects r.master.seq command j.number widths)
    (answers_idle r.master (task.Select command) idle refl refl) j down)
step_goes laws o lists now r entries target was is l (Operates id command) from widths j down =
    let (idle, chosen, origin) = operates_from r entries target id command from in
    subst (λ (asks : List Command). Follows [] [] asks o.performed l (at_lines o lists now (asked r.master now (task.Operate command)) is))
    (laws.operated r.master.seq command j.number widths)
    (request_goes laws o lists now r.master was is l (task.Operate command) (laws.operates r.master.seq command j.number widths)
    (answers_idle r.master (task.Operate command) idle chosen refl) j down)
step_goes laws o lists now r entries target was is l (Finishes id status) from widths j down =
    stays_as [] l (at_lines o lists now r.master is) (at_lines o lists now r.master was)
    (ap (at_lines o lists now r.master) (none_goes was is down)) j

-- the points that its master asks for stay
pub points_stay : (s : master.State) (now : ℕ) (t : Task) (answer : Result (List ℕ) AskFault) → (asked_by s now t answer).plan ≡ s.plan
points_stay s now t (Ok octets) = refl
points_stay s now t (Err fault) = refl

pub step_points : (r : Relaying) (now : ℕ) (step : Step) → points_asked (relaying_after r now step) ≡ points_asked r
step_points r now Waits = refl
step_points r now (Selects id command) = points_stay r.master now (task.Select command) (ask_answer r.master (task.Select command))
step_points r now (Operates id command) = points_stay r.master now (task.Operate command) (ask_answer r.master (task.Operate command))
step_points r now (Finishes id status) = refl
