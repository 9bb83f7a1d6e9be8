-- A clean round over the link between concentrator and centre.
use Rattle.std.proofs.Common.{◌≡◌, ℕ, ◌+◌, Bool, true, false, if◌then◌else◌, ◌&&◌, List, [], ◌∷◌, ◌++◌, append-nil, arith, Option, Some, None, Result, Ok, refl, sym, ap, ◌∙◌, subst}
use Rattle.std.specs.Prelude.{option_to_list}
use Rattle.std.proofs.lemmas.Bool.{and_parts}
use Rattle.dnp_concentrator.specs.BookOutputs.{all_added}
use Rattle.dnp_concentrator.specs.Relaying as relaying
use Rattle.dnp_concentrator.specs.Relaying.{Relaying}
use Rattle.dnp_eventbuf.specs.Archive.{Archive, with_events}
use Rattle.dnp_master.specs.Calls.{Taking, receive_of}
use Rattle.dnp_master.specs.State as master
use Rattle.dnp_master.specs.declared.fault.MasterFault.{MasterFault}
use Rattle.dnp_objects.specs.declared.command.Command.{Command}
use Rattle.dnp_objects.specs.declared.row.Row.{Row}
use Rattle.dnp_outstation.specs.Calls.{connection_after, performed_at, performed_for, performed_in}
use Rattle.dnp_outstation.specs.Connection.{case_of}
use Rattle.dnp_outstation.specs.Controls.{is_control}
use Rattle.dnp_outstation.specs.State.{State, Step, is_quiet, still}
use Rattle.dnp_outstation.specs.declared.case.Case.{Case}
use Rattle.dnp_outstation.specs.declared.case.Case.TheVariants.{Asks}
use Rattle.dnp_world.specs.Arriving.{Arrives, IsClearOn, UnderWay, confirms_of}
use Rattle.dnp_world.specs.Channels.{are_quiet}
use Rattle.dnp_world.specs.Movement.{Leave, MovesAbove, Released, Rested}
use Rattle.dnp_outstation.specs.Polled.{Portion, no_rows, poll_octets}
use Rattle.dnp_world.specs.Rounds.{IsRound, events_polled, is_quiet_above}
use Rattle.dnp_world.specs.SystemEvents.{MasterReceives, SendsDown, centre_taken, relaying_at, taken_above}
use Rattle.dnp_world.specs.SystemRuns.{Happens}
use Rattle.dnp_world.specs.Systems.{CentreState, ConcentratorState, System, itself, middle_of, middle_panel}
use Rattle.dnp_world.specs.declared.event.Link.{Link}
use Rattle.dnp_world.specs.declared.event.Link.TheVariants.{Above}
use Rattle.dnp_world.specs.declared.link_event.Way.TheVariants.{Down, Up}
use Rattle.dnp_world.proofs.RoundBelow.{LineLaws}
use Rattle.dnp_world.proofs.RoundExchange.{Answer, Exchange, Exchanges, Frees, Passes, StationLaws, master_after}
use Rattle.dnp_world.proofs.RoundSteps.{asks_so, one_arrives}

-- ---- the two stations

abbrev step_in : ConcentratorState → ℕ → List ℕ → Step
step_in c now fragment = connection_after (middle_of c) (middle_panel c now) now fragment

-- the concentrator after a fragment
abbrev pub concentrator_after : ConcentratorState → ℕ → List ℕ → ConcentratorState
concentrator_after c now fragment = record c {
  core = (step_in c now fragment).state.core;
  queue = (step_in c now fragment).state.lanes;
  controls = all_added c.indices c.controls (performed_in c.core (middle_panel c now) now fragment);
}

-- what is no control performs nothing
no_commands : (c : ConcentratorState) (now : ℕ) (fragment : List ℕ) → is_control fragment ≡ false → performed_in c.core (middle_panel c now) now fragment ≡ []
no_commands c now fragment none = by (case_of c.core fragment)
  where
    by : (x : Case) → performed_for c.core (middle_panel c now) now fragment x ≡ []
    by Asks = ap (λ (b : Bool). if b then performed_at c.core (middle_panel c now) now fragment else []) none
    by x = refl

-- what it makes of the system, but for lines
abbrev pub answered_in : System → List ℕ → System
answered_in s fragment = record s { concentrator = concentrator_after s.concentrator s.now fragment }

-- ---- what the round begins with

pub record BeginsAbove (old : System) : Type 0 where
  pub idle : master.is_idle old.centre.link.master ≡ true
  pub quiet : is_quiet old.concentrator.core ≡ true

pub begins_above : (old : System) → is_quiet_above old ≡ true → BeginsAbove old
begins_above old quiet =
    let a = and_parts (master.is_idle old.centre.link.master) (is_quiet old.concentrator.core && are_quiet old.above) quiet in
    record { idle = a.0; quiet = (and_parts (is_quiet old.concentrator.core) (are_quiet old.above) a.1).0 }

-- no events change nothing
no_events : (a : Archive) → a ≡ with_events a []
no_events a =
    let none : a.last_id ≡ a.last_id + 0 = omega arith in
    ap (λ rows. let b : Archive = record { rows = rows; last_id = a.last_id } in b) (sym (append-nil a.rows))
    ∙ ap (λ (n : ℕ). let b : Archive = record { rows = a.rows ++ []; last_id = n } in b) none

-- ---- the round

module _ (laws : StationLaws) (lines : LineLaws) (number : ℕ) (old new : System) (begins : BeginsAbove old) (clear : IsClearOn (Above number) old)
    (portion_in : State → Portion) (round : IsRound Happens itself (Above number) old new) where
  abbrev on : Link
  on = Above number

  abbrev link : Relaying
  link = old.centre.link

  abbrev poll : List ℕ
  poll = poll_octets link.master.seq

  abbrev asking : Relaying
  asking = relaying.asking link old.now events_polled

  abbrev c0 : ConcentratorState
  c0 = old.concentrator

  abbrev portion : Portion
  portion = portion_in (middle_of c0)

  abbrev centre1 : CentreState
  centre1 = record old.centre { link = asking }

  -- the lines are left out of it
  abbrev still_lines : System → System
  still_lines s = record s { above = old.above }

  -- the concentrator and the centre are these, and all else but lines is as it was
  abbrev IsNow : ConcentratorState → CentreState → System → Type 0
  IsNow c centre s = still_lines s ≡ record old { concentrator = c; centre = centre }

  -- the poll goes down
  sends : SendsDown on (poll ∷ []) asking old round.asked
  sends = asks_so on old round.asked true poll refl (laws.asks link.master begins.idle) round.asks

  once_asked : IsNow c0 centre1 round.asked
  once_asked = ap still_lines sends.1

  poll_under_way : UnderWay on (poll ∷ []) [] round.asked
  poll_under_way = lines.asked on (poll ∷ []) [] [] asking old round.asked clear sends

  -- it comes, and is answered
  abbrev step1 : Step
  step1 = step_in c0 old.now poll

  abbrev c1 : ConcentratorState
  c1 = concentrator_after c0 old.now poll

  record IsAnswered (answers : List (List ℕ)) : Type 0 where
    is : IsNow c1 centre1 round.answered
    under_way : UnderWay on [] answers round.answered

  answered : (answers : List (List ℕ)) → step1.does.send ≡ answers → IsAnswered answers
  answered answers sent =
      let d = lines.down on (poll ∷ []) [] round.asked round.answered poll_under_way round.down in
      let a : Arrives on Down poll d.0 round.asked round.answered = one_arrives on Down poll d.0 round.asked round.answered d.1 in
      let heard : IsNow c0 centre1 a.heard = ap still_lines a.hears.1 ∙ once_asked in
      let back : d.0 ≡ answers = a.sends ∙ ap (λ (s : System). (step_in s.concentrator s.now poll).does.send) heard ∙ sent in
      record {
        is = ap still_lines a.takes.after ∙ ap (λ (s : System). answered_in s poll) heard;
        under_way = subst (λ (up : List (List ℕ)). UnderWay on [] up round.answered) back d.2;
      }

  -- what is no control leaves the book as it is
  plain_after : (c : ConcentratorState) (fragment : List ℕ) → is_control fragment ≡ false → c ≡ record c0 { core = c.core; queue = c.queue }
      → (let next : ConcentratorState = concentrator_after c old.now fragment in next ≡ record c0 { core = next.core; queue = next.queue })
  plain_after c fragment none plain =
      let step : Step = step_in c old.now fragment in
      ap (λ (commands : List Command). record c {
        core = step.state.core;
        queue = step.state.lanes;
        controls = all_added c.indices c.controls commands;
      }) (no_commands c old.now fragment none)
      ∙ ap (λ (x : ConcentratorState). record x { core = step.state.core; queue = step.state.lanes }) plain

  plain_polled : c1 ≡ record c0 { core = c1.core; queue = c1.queue }
  plain_polled = plain_after c0 poll refl refl

  -- what the round ends with
  record IsDone (c : ConcentratorState) (centre : CentreState) : Type 0 where
    left : Leave portion c0.queue c.queue
    plain : c ≡ record c0 { core = c.core; queue = c.queue }
    is : IsNow c centre new

  -- ---- a fragment is exchanged
  module _ (x : Exchange link.master old.now (middle_of c0) (middle_panel c0 old.now) portion) where
    abbrev centre2 : CentreState
    centre2 = centre_taken centre1 x.taken

    record IsTaken : Type 0 where
      is : IsNow c1 centre2 round.taken
      under_way : UnderWay on (option_to_list x.confirm) [] round.taken

    -- it comes, and is taken
    taken : IsTaken
    taken =
        let t : Taking = x.taken in
        let before = answered (x.fragment ∷ []) x.sent in
        let u = lines.up on [] (x.fragment ∷ []) round.answered round.taken before.under_way round.up in
        let b : Arrives on Up x.fragment u.0 round.answered round.taken = one_arrives on Up x.fragment u.0 round.answered round.taken u.1 in
        let heard : IsNow c1 centre1 b.heard = ap still_lines b.hears.1 ∙ before.is in
        let got : receive_of (relaying_at b.heard on).master b.heard.now x.fragment ≡ Ok t =
        ap (λ (s : System). receive_of s.centre.link.master s.now x.fragment) heard ∙ x.is_taken in
        let received : MasterReceives on (Ok t) b.heard round.taken =
        subst (λ (r : Result Taking MasterFault). MasterReceives on r b.heard round.taken) got b.takes in
        let sent : u.0 ≡ option_to_list x.confirm = b.sends ∙ ap confirms_of got ∙ ap option_to_list x.confirm_is in
        record {
          is = ap still_lines received.1.1 ∙ ap (λ (s : System). taken_above s t) heard;
          under_way = subst (λ (down : List (List ℕ)). UnderWay on down [] round.taken) sent u.2;
        }

    -- where it asks for a confirm that comes, and releases the rows
    confirms : (o : Option (List ℕ)) → x.confirm ≡ o → UnderWay on (option_to_list o) [] round.taken
        → (c : ConcentratorState) × IsDone c centre2
    confirms (Some octets) is under_way =
        let d = lines.down on (octets ∷ []) [] round.taken new under_way round.confirms in
        let a : Arrives on Down octets d.0 round.taken new = one_arrives on Down octets d.0 round.taken new d.1 in
        let heard : IsNow c1 centre2 a.heard = ap still_lines a.hears.1 ∙ taken.is in
        let r : Frees portion c0.queue (middle_of c1).performed (step_in c1 old.now octets) =
        x.frees octets is (middle_of c1).performed (middle_panel c1 old.now) in (
          concentrator_after c1 old.now octets,
          record {
            left = Released x.released r.lanes;
            plain = plain_after c1 octets (x.no_control octets is) plain_polled;
            is = ap still_lines a.takes.after ∙ ap (λ (s : System). answered_in s octets) heard;
          },
        )
    confirms None is under_way =
        let d = lines.down on [] [] round.taken new under_way round.confirms in
        let same : new ≡ round.taken = d.1.1 in (
          c1,
          record { left = Rested (x.none is) x.lanes; plain = plain_polled; is = ap still_lines same ∙ taken.is },
        )

  -- ---- the poll is passed over
  passes : step1 ≡ still (middle_of c0) → portion ≡ no_rows → IsDone c1 centre1
  passes rests none =
      let before = answered [] (ap (λ (step : Step). step.does.send) rests) in
      let u = lines.up on [] [] round.answered round.taken before.under_way round.up in
      let second : round.taken ≡ round.answered = u.1.1 in
      let quiet : UnderWay on [] [] round.taken = subst (λ (down : List (List ℕ)). UnderWay on down [] round.taken) u.1.0 u.2 in
      let d = lines.down on [] [] round.taken new quiet round.confirms in
      let third : new ≡ round.taken = d.1.1 in
      record {
        left = Rested (ap (λ (x : Portion). x.rows) none) (ap (λ (step : Step). step.state.lanes) rests);
        plain = plain_polled;
        is = ap still_lines (third ∙ second) ∙ before.is;
      }

  -- ---- all of it

  pub record Moved (after : master.State) : Type 0 where
    pub moves : MovesAbove portion_in old new
    pub master_is : new.centre.link.master ≡ after

  -- of the centre the link and the journal change
  moved : (c : ConcentratorState) (centre : CentreState) → IsDone c centre
      → centre ≡ record old.centre { link = centre.link; journal = with_events old.centre.journal portion.rows } → Moved centre.link.master
  moved c centre done journal = record {
    moves = record {
      left = subst (λ (s : System). Leave portion c0.queue s.concentrator.queue) (sym done.is) done.left;
      concentrator = subst (λ (s : System). s.concentrator ≡ record c0 { core = s.concentrator.core; queue = s.concentrator.queue }) (sym done.is) done.plain;
      centre = subst (λ (s : System). s.centre ≡ record old.centre { link = s.centre.link; journal = with_events old.centre.journal portion.rows })
          (sym done.is) journal;
      substations = ap (λ (s : System). s.substations) done.is;
      history = ap (λ (s : System). s.history) done.is;
    };
    master_is = ap (λ (s : System). s.centre.link.master) done.is;
  }

  abbrev with_journal : CentreState → Archive → CentreState
  with_journal centre journal = record old.centre { link = centre.link; journal = journal }

  pub moves : (answer : Answer link.master old.now (middle_of c0) (middle_panel c0 old.now) portion)
      → Moved (master_after link.master old.now (middle_of c0) (middle_panel c0 old.now) portion answer)
  moves (Exchanges x) =
      let done = confirms x x.confirm refl (taken x).under_way in
      moved done.0 (centre2 x) done.1 (ap (λ (rows : List Row). with_journal (centre2 x) (with_events old.centre.journal rows)) x.events)
  moves (Passes rests none) =
      moved c1 centre1 (passes rests none)
      (ap (with_journal centre1) (no_events old.centre.journal)
      ∙ ap (λ (rows : List Row). with_journal centre1 (with_events old.centre.journal rows)) (sym (ap (λ (x : Portion). x.rows) none)))
