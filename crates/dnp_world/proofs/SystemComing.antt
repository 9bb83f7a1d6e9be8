-- What comes to the concentrator from above.
use Rattle.std.proofs.Common.{◌≡◌, ℕ, ◌<◌, Bool, List, [], ◌∷◌, Some, refl, sym, ap, ◌∙◌, subst}
use Rattle.dnp_objects.specs.declared.command.Command.{Command}
use Rattle.dnp_controls.specs.Book.{Ledger}
use Rattle.dnp_eventbuf.specs.Sides.{other_than}
use Rattle.dnp_eventbuf.specs.EventBuffer.{EventBuffer}
use Rattle.dnp_eventbuf.specs.declared.pair.TheConstants.{CENTRES}
use Rattle.dnp_outstation.specs.State.{State, Step, Actions}
use Rattle.dnp_outstation.specs.Calls.{performed_in}
use Rattle.dnp_pointdb.specs.Plan as points
use Rattle.dnp_concentrator.specs.BookOutputs.{Performs, all_added, book_in, map_in}
use Rattle.dnp_concentrator.specs.Concentrator.{above_of, core_of, links_of, outputs_of, panel_above, plan_above, queue_of}
use Rattle.dnp_concentrator.specs.PerCentre.{at, for_each, of_each, with_at}
use Rattle.dnp_concentrator.specs.declared.book_outputs.BookOutputs.{BookOutputs}
use Rattle.dnp_concentrator.specs.declared.concentrator.Concentrator.{Concentrator}
use Rattle.dnp_concentrator.specs.declared.per_centre.PerCentre.{PerCentre}
use Rattle.dnp_line.specs.Lines.{LineState}
use Rattle.dnp_line.specs.Ports.{PortState}
use Rattle.dnp_world.specs.Centres.{ChangesAll}
use Rattle.dnp_world.specs.Channels.{AnswersTo, ChannelState, ComesToOutstation, GoUp, HavePerformed, left_by, state_of}
use Rattle.dnp_world.specs.SystemEvents.{ComesDownAbove, MiddleAnswers, MiddleSteps}
use Rattle.dnp_world.specs.SystemParts.{concentrator_of}
use Rattle.dnp_world.specs.Systems.{ConcentratorState, System}
use Rattle.dnp_world.specs.Wholes.{Whole, seen_by}
use Rattle.dnp_world.specs.declared.channel.Channel.{Channel}
use Rattle.dnp_world.specs.steps.WholeSteps.{KeepsOtherCentre}
use Rattle.dnp_world.proofs.CentrePlaces.{StaysApart, middle_there, middle_view}
use Rattle.dnp_world.proofs.PerCentre.{for_others, made_alike, own_and_others, same_there}

-- what went up with another line down
pub relined : (fragments : List (List ℕ)) (old new : ChannelState) (line : LineState) → GoUp fragments old new
    → GoUp fragments (record old { down = line }) (record new { down = line })
relined fragments old new line up = record { sent = up.sent; after = ap (λ (c : ChannelState). record c { down = line }) up.after }

-- the commands that the outputs performed are in the book
all_in : {A : Type 0} (ledger : A → Ledger) (commands : List Command) (old new : BookOutputs A) → HavePerformed (Performs ledger) commands old new
    → (map_in new ≡ map_in old) × (ledger (book_in new) ≡ all_added (map_in old) (ledger (book_in old)) commands)
all_in {A} ledger [] old new h =
    (ap (λ (o : BookOutputs A). map_in o) (h.idle refl), ap (λ (o : BookOutputs A). ledger (book_in o)) (h.idle refl))
all_in ledger (command ∷ commands) old new h = let done = h.performed (λ none. absurd (cc)) in (done.0, done.1)

-- the concentrator after a step of its outstation, as the centre sees it
pub stepped : {Q A : Type 0} (buffer : Q → ℕ → EventBuffer) (ledger : A → Ledger) (n : ℕ) (old new : Concentrator Q A) (state : State) (commands : List Command)
    → state ≡ above_of buffer ledger n new → HavePerformed (Performs ledger) commands (outputs_of old) (outputs_of new)
    → core_of (other_than n) new ≡ core_of (other_than n) old → links_of new ≡ links_of old → plan_above new ≡ plan_above old
    → middle_view buffer ledger n new ≡ record (middle_view buffer ledger n old) {
      core = state.core;
      queue = state.lanes;
      controls = all_added (map_in (outputs_of old)) (ledger (book_in (outputs_of old))) commands;
    }
stepped buffer ledger n old new state commands is performs other links plan =
    let both = all_in ledger commands (outputs_of old) (outputs_of new) performs in
    rw is (cc (both.0, both.1))

-- the system with this concentrator
abbrev with_concentrator : {Q A : Type 0} → (Q → ℕ → EventBuffer) → (A → Ledger) → ℕ → System → Concentrator Q A → System
with_concentrator buffer ledger n rest c = record rest { concentrator = middle_view buffer ledger n c }

-- what follows of the concentrator's outputs, and of what it has for the other centre, where these commands were performed
abbrev pub Follows : {Q A : Type 0} → (Q → Type 0) → (Q → ℕ → EventBuffer) → (A → Ledger) → ℕ → Concentrator Q A → Concentrator Q A → List Command → Type 0
Follows honest buffer ledger n c d commands =
    HavePerformed (Performs ledger) commands (outputs_of c) (outputs_of d) × KeepsOtherCentre honest buffer n c d

-- another centre sees no more than the commands
pub stays_apart : {Q A : Type 0} (honest : Q → Type 0) (buffer : Q → ℕ → EventBuffer) (ledger : A → Ledger) (n : ℕ) → n < CENTRES
    → (c d : Concentrator Q A) (commands : List Command) → honest (queue_of d) → Follows honest buffer ledger n c d commands
    → StaysApart buffer ledger n commands c d
stays_apart honest buffer ledger n low c d commands is (performs, keeps) =
    let both = all_in ledger commands (outputs_of c) (outputs_of d) performs in
    record {
      cores = for_others (λ m. core_of m d ≡ core_of m c) n low keeps.core;
      queues = for_others (λ m. buffer (queue_of d) m ≡ buffer (queue_of c) m) n low (keeps.side is);
      indices = both.0;
      points = keeps.plan;
      controls = both.1;
      links = keeps.links;
    }

answers : {Q A : Type 0} (honest : Q → Type 0) (buffer : Q → ℕ → EventBuffer) (ledger : A → Ledger) (n : ℕ) (c d : Concentrator Q A) (rest : System)
    (port : PortState) (does : Actions) (answered repeats : Bool) (lines : ChannelState) (given : List (List ℕ))
    → AnswersTo given (Follows honest buffer ledger n c d) (panel_above ledger n rest.now c) rest.now (above_of buffer ledger n c)
    (above_of buffer ledger n d) does answered (record rest.above { outstation_port = port }) lines
    → MiddleAnswers given
    (record (with_concentrator buffer ledger n rest c) {
      above = record rest.above { down = left_by repeats rest.above.down; outstation_port = port };
    })
    (record (with_concentrator buffer ledger n rest d) { above = record lines { down = left_by repeats lines.down } })
answers honest buffer ledger n c d rest port does answered repeats lines [] (none, same, kept, follows) =
    ap (λ (k : ConcentratorState). record rest { concentrator = k; above = record lines { down = left_by repeats lines.down } })
    (stepped buffer ledger n c d (above_of buffer ledger n c) [] (sym same) follows.0 follows.1.core follows.1.links follows.1.plan)
    ∙ ap (λ (l : ChannelState). record (with_concentrator buffer ledger n rest c) { above = record l { down = left_by repeats l.down } }) kept
answers honest buffer ledger n c d rest port does answered repeats lines (fragment ∷ others) (one, step_is, up, follows) =
    let down : lines.down ≡ rest.above.down = ap (λ (l : ChannelState). l.down) up.after in
    let last : ChannelState = record lines { down = left_by repeats lines.down } in
    let first : ChannelState = record rest.above { down = left_by repeats rest.above.down; outstation_port = port } in
    let commands : List Command = performed_in (core_of n c) (panel_above ledger n rest.now c) rest.now fragment in
    subst (λ (step : Step). MiddleSteps step commands first (record (with_concentrator buffer ledger n rest c) { above = first })
    (record (with_concentrator buffer ledger n rest d) { above = last })) (sym step_is)
    (record {
      sent = subst (λ (l : LineState). GoUp does.send (record rest.above { down = left_by repeats l; outstation_port = port }) last) down
          (relined does.send (record rest.above { outstation_port = port }) lines (left_by repeats lines.down) up);
      after = ap (λ (k : ConcentratorState). record rest { concentrator = k; above = last })
          (stepped buffer ledger n c d (above_of buffer ledger n d) commands refl follows.0 follows.1.core follows.1.links follows.1.plan);
    })

-- what comes to the outstation's end of the lines above is what comes to the concentrator
pub comes_above : {Q A : Type 0} (honest : Q → Type 0) (buffer : Q → ℕ → EventBuffer) (ledger : A → Ledger) (n : ℕ) (c d : Concentrator Q A) (rest : System)
    (does : Actions) (answered repeats : Bool) (lines : ChannelState)
    → ComesToOutstation (Follows honest buffer ledger n c d) (panel_above ledger n rest.now c) rest.now (above_of buffer ledger n c)
    (above_of buffer ledger n d) does answered rest.above lines
    → ComesDownAbove (left_by repeats) (with_concentrator buffer ledger n rest c)
    (record (with_concentrator buffer ledger n rest d) { above = record lines { down = left_by repeats lines.down } })
comes_above honest buffer ledger n c d rest does answered repeats lines came = record {
  port = came.port;
  given = came.given;
  heard = came.heard;
  came = answers honest buffer ledger n c d rest came.port does answered repeats lines came.given came.came;
}

-- the commands that were performed for what came
commands_come : {Q A : Type 0} (honest : Q → Type 0) (buffer : Q → ℕ → EventBuffer) (ledger : A → Ledger) (n now : ℕ) (c d : Concentrator Q A)
    (does : Actions) (answered : Bool) (old new : ChannelState) (given : List (List ℕ))
    → AnswersTo given (Follows honest buffer ledger n c d) (panel_above ledger n now c) now (above_of buffer ledger n c) (above_of buffer ledger n d) does
    answered old new → (commands : List Command) × Follows honest buffer ledger n c d commands
commands_come honest buffer ledger n now c d does answered old new [] (none, same, kept, follows) = ([], follows)
commands_come honest buffer ledger n now c d does answered old new (fragment ∷ others) (one, step_is, up, follows) =
    (performed_in (core_of n c) (panel_above ledger n now c) now fragment, follows)

-- what comes to the concentrator from a centre, as all see it
pub comes_from : {Q A : Type 0} (honest : Q → Type 0) (buffer : Q → ℕ → EventBuffer) (ledger : A → Ledger) (n : ℕ) → n < CENTRES → (rest : Whole)
    (c d : Concentrator Q A) → honest (queue_of d) → (does : Actions) (answered repeats : Bool) (above : PerCentre Channel)
    (before lines last : Channel) → before ≡ at n above → (state_of last ≡ (let l = state_of lines in record l { down = left_by repeats l.down }))
    → ComesToOutstation (Follows honest buffer ledger n c d) (panel_above ledger n rest.now c) rest.now (above_of buffer ledger n c)
    (above_of buffer ledger n d) does answered (state_of before) (state_of lines)
    → ChangesAll (Some n) (ComesDownAbove (left_by repeats)) (record rest { concentrator = concentrator_of buffer ledger c; above = of_each state_of above })
    (record rest { concentrator = concentrator_of buffer ledger d; above = of_each state_of (with_at n above last) })
comes_from honest buffer ledger n low rest c d is does answered repeats above before lines last there settled came =
    let base : System = record (seen_by n rest) { above = state_of before } in
    let some = commands_come honest buffer ledger n rest.now c d does answered _ (state_of lines) came.given came.came in
    middle_there buffer ledger n low (ComesDownAbove (left_by repeats)) rest c d some.0 (stays_apart honest buffer ledger n low c d some.0 is some.1) above
    before last there
    (subst (λ (l : ChannelState). ComesDownAbove (left_by repeats) (with_concentrator buffer ledger n base c)
    (record (with_concentrator buffer ledger n base d) { above = l })) (sym settled)
    (comes_above honest buffer ledger n c d base does answered repeats (state_of lines) came))

-- ---- where nothing came of it

-- the concentrator stays, where what the centre and the other one see of it does
concentrator_stays : {Q A : Type 0} (honest : Q → Type 0) (buffer : Q → ℕ → EventBuffer) (ledger : A → Ledger) (n : ℕ) → n < CENTRES → (c d : Concentrator Q A)
    → honest (queue_of d) → map_in (outputs_of d) ≡ map_in (outputs_of c) → ledger (book_in (outputs_of d)) ≡ ledger (book_in (outputs_of c))
    → KeepsOtherCentre honest buffer n c d → above_of buffer ledger n d ≡ above_of buffer ledger n c
    → concentrator_of buffer ledger d ≡ concentrator_of buffer ledger c
concentrator_stays {Q} {A} honest buffer ledger n low c d is indices controls keeps same =
    let cores : for_each (λ m. core_of m d) ≡ for_each (λ m. core_of m c) =
    made_alike (λ m. core_of m d) (λ m. core_of m c)
    (own_and_others _ n (ap (λ (s : State). s.core) same) (for_others (λ m. core_of m d ≡ core_of m c) n low keeps.core)) in
    let queues : for_each (buffer (queue_of d)) ≡ for_each (buffer (queue_of c)) =
    made_alike (buffer (queue_of d)) (buffer (queue_of c))
    (own_and_others _ n (ap (λ (s : State). s.lanes) same) (for_others (λ m. buffer (queue_of d) m ≡ buffer (queue_of c) m) n low (keeps.side is))) in
    cc (cores, queues, indices, controls, keeps.plan, keeps.links)

-- so the whole stays
pub all_stays : {Q A : Type 0} (honest : Q → Type 0) (buffer : Q → ℕ → EventBuffer) (ledger : A → Ledger) (n : ℕ) → n < CENTRES → (rest : Whole)
    (c d : Concentrator Q A) → honest (queue_of d) → map_in (outputs_of d) ≡ map_in (outputs_of c)
    → ledger (book_in (outputs_of d)) ≡ ledger (book_in (outputs_of c)) → KeepsOtherCentre honest buffer n c d
    → above_of buffer ledger n d ≡ above_of buffer ledger n c → (above : PerCentre Channel) (before lines : Channel) → before ≡ at n above
    → state_of lines ≡ state_of before
    → record rest { concentrator = concentrator_of buffer ledger d; above = of_each state_of (with_at n above lines) }
    ≡ record rest { concentrator = concentrator_of buffer ledger c; above = of_each state_of above }
all_stays honest buffer ledger n low rest c d is indices controls keeps same above before lines there lines_same =
    cc (concentrator_stays honest buffer ledger n low c d is indices controls keeps same, same_there state_of n above before lines there lines_same)

-- also where nothing was performed
pub all_stays_idle : {Q A : Type 0} (honest : Q → Type 0) (buffer : Q → ℕ → EventBuffer) (ledger : A → Ledger) (n : ℕ) → n < CENTRES → (rest : Whole)
    (c d : Concentrator Q A) → honest (queue_of d) → Follows honest buffer ledger n c d [] → above_of buffer ledger n d ≡ above_of buffer ledger n c
    → (above : PerCentre Channel) (before lines : Channel) → before ≡ at n above → state_of lines ≡ state_of before
    → record rest { concentrator = concentrator_of buffer ledger d; above = of_each state_of (with_at n above lines) }
    ≡ record rest { concentrator = concentrator_of buffer ledger c; above = of_each state_of above }
all_stays_idle honest buffer ledger n low rest c d is (performs, keeps) same =
    let both = all_in ledger [] (outputs_of c) (outputs_of d) performs in
    all_stays honest buffer ledger n low rest c d is both.0 both.1 keeps same
