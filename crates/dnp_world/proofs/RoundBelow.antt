-- A clean round over the link to a substation.
use Rattle.std.proofs.Common.{◌≡◌, ℕ, ◌<◌, true, ◌&&◌, List, [], ◌∷◌, ◌++◌, length, append-nil, Option, Some, None, Result, Ok, refl, sym, ap, ◌∙◌, subst, arith}
use Rattle.std.specs.Prelude.{nat_lt, option_map, option_to_list, slice_get, slice_set}
use Rattle.std.proofs.lemmas.Bool.{and_parts, ltb-true}
use Rattle.std.proofs.lemmas.List.{length-set}
use Rattle.dnp_concentrator.specs.Relaying as relaying
use Rattle.dnp_concentrator.specs.Relaying.{Relaying}
use Rattle.dnp_eventbuf.specs.EventBuffer.{EventBuffer, dropped_by, with_rows}
use Rattle.dnp_master.specs.Calls.{Taking, receive_of}
use Rattle.dnp_master.specs.State as master
use Rattle.dnp_master.specs.declared.fault.MasterFault.{MasterFault}
use Rattle.dnp_objects.specs.declared.command.Command.{Command}
use Rattle.dnp_objects.specs.declared.row.Row.{Row}
use Rattle.dnp_outstation.specs.State.{State, Step, is_quiet, still}
use Rattle.dnp_world.specs.Arriving.{Arrive, Arrives, HearsAt, IsClearOn, UnderWay, confirms_of}
use Rattle.dnp_world.specs.Behind.{Elsewhere}
use Rattle.dnp_world.specs.Channels.{GoDown}
use Rattle.dnp_world.specs.Movement.{Leave, MovesBelow, Released, Rested, rows_queued}
use Rattle.dnp_outstation.specs.Polled.{Portion, no_rows, poll_octets}
use Rattle.dnp_world.specs.Rounds.{Flushes, IsRound, events_polled, is_quiet_at, is_quiet_on}
use Rattle.dnp_world.specs.SystemEvents.{MasterReceives, SendsDown, concentrator_taken, dropped_for, relaying_at, taken_below, with_link}
use Rattle.dnp_world.specs.SystemStanding.{IsStanding}
use Rattle.dnp_world.specs.SystemRuns.{Happens}
use Rattle.dnp_world.specs.Systems.{ConcentratorState, History, SubstationState, System, has_substation, itself, link_at}
use Rattle.dnp_world.specs.declared.event.Link.{Link}
use Rattle.dnp_world.specs.declared.event.Link.TheVariants.{Below}
use Rattle.dnp_world.specs.declared.link_event.Way.TheVariants.{Down, Up}
use Rattle.dnp_world.proofs.RoundExchange.{Answer, Exchange, Exchanges, Frees, Passes, StationLaws, master_after}
use Rattle.dnp_world.proofs.RoundSteps.{IsNow, Parts, QuietAt, Rest, asks_so, lines_change, link_set, one_arrives, panel_in, parts_after, parts_of, parts_there, quiet_at, rest_of, rows_taken, set_link, state_in, step_in, substation_sends, substation_steps, with_confirmed, with_dropped}

-- what is promised of the lines
pub record LineLaws : Type 0 where
  pub quiet : (on : Link) (s : System) {el : Elsewhere} → IsStanding el s → is_quiet_on s on ≡ true → IsClearOn on s
  pub asked : (on : Link) (fragments down up : List (List ℕ)) (link : Relaying) (old new : System) → UnderWay on down up old
      → SendsDown on fragments link old new → UnderWay on (down ++ fragments) up new
  pub down : (on : Link) (down up : List (List ℕ)) (old new : System) → UnderWay on down up old → Flushes Happens itself on Down old new
      → (answers : List (List ℕ)) × Arrive on Down down answers old new × UnderWay on [] (up ++ answers) new
  pub up : (on : Link) (down up : List (List ℕ)) (old new : System) → UnderWay on down up old → Flushes Happens itself on Up old new
      → (answers : List (List ℕ)) × Arrive on Up up answers old new × UnderWay on (down ++ answers) [] new

-- ---- what the round begins with

pub record BeginsBelow (substation : ℕ) (old : System) : Type 0 where
  pub has : has_substation old substation ≡ true
  pub low : substation < length old.concentrator.links
  pub was : SubstationState
  pub there : slice_get old.substations substation ≡ Some was
  pub idle : master.is_idle (link_at old.concentrator substation).master ≡ true
  pub quiet : is_quiet was.core ≡ true

pub begins_below : (substation : ℕ) (old : System) → is_quiet_on old (Below substation) ≡ true → BeginsBelow substation old
begins_below substation old quiet =
    let a = and_parts (has_substation old substation)
    (master.is_idle (link_at old.concentrator substation).master && is_quiet_at (slice_get old.substations substation)) quiet in
    let b = and_parts (master.is_idle (link_at old.concentrator substation).master) (is_quiet_at (slice_get old.substations substation)) a.1 in
    let q : QuietAt (slice_get old.substations substation) = quiet_at (slice_get old.substations substation) b.1 in
    let sizes = and_parts (nat_lt substation (length old.substations)) (nat_lt substation (length old.concentrator.links)) a.0 in
    record {
      has = a.0;
      low = ltb-true substation (length old.concentrator.links) sizes.1;
      was = q.was;
      there = q.there;
      idle = b.0;
      quiet = q.quiet;
    }

-- ---- the round

module _ (laws : StationLaws) (lines : LineLaws) (substation : ℕ) (old new : System) (begins : BeginsBelow substation old)
    (clear : IsClearOn (Below substation) old) (portion_in : State → Portion) (round : IsRound Happens itself (Below substation) old new) where
  abbrev on : Link
  on = Below substation

  abbrev link : Relaying
  link = link_at old.concentrator substation

  abbrev poll : List ℕ
  poll = poll_octets link.master.seq

  abbrev asking : Relaying
  asking = relaying.asking link old.now events_polled

  abbrev p0 : Parts
  p0 = parts_of begins.was

  abbrev portion : Portion
  portion = portion_in (state_in p0)

  abbrev rest : Rest
  rest = rest_of old

  abbrev c1 : ConcentratorState
  c1 = record old.concentrator { links = slice_set old.concentrator.links substation asking }

  abbrev h0 : History
  h0 = old.history

  -- the poll goes down
  sends : SendsDown on (poll ∷ []) asking old round.asked
  sends = asks_so on old round.asked (has_substation old substation) poll begins.has (laws.asks link.master begins.idle) round.asks

  at_first : IsNow substation rest p0 old.concentrator h0 old
  at_first = record {
    parts = ap (option_map parts_of) begins.there;
    concentrator = refl;
    history = refl;
    others = λ i apart. refl;
    centre = refl;
    now = refl;
  }

  once_asked : IsNow substation rest p0 c1 h0 round.asked
  once_asked = lines_change substation rest p0 c1 h0 (GoDown (poll ∷ [])) (with_link old substation asking) round.asked sends
      (link_set substation rest p0 old.concentrator h0 asking old at_first)

  poll_under_way : UnderWay on (poll ∷ []) [] round.asked
  poll_under_way = lines.asked on (poll ∷ []) [] [] asking old round.asked clear sends

  -- it comes, and is answered
  abbrev step1 : Step
  step1 = step_in p0 old.now poll

  abbrev p1 : Parts
  p1 = parts_after p0 step1

  none_confirmed : (rows : List Row) (h : History) → rows ≡ [] → with_confirmed substation rows h ≡ h
  none_confirmed rows h none =
      ap (λ (xs : List Row). with_confirmed substation xs h) none
      ∙ ap (λ (xs : List (ℕ × Row)). record h { confirmed = xs }) (append-nil h.confirmed)

  record IsAnswered (answers : List (List ℕ)) : Type 0 where
    is : IsNow substation rest p1 c1 h0 round.answered
    under_way : UnderWay on [] answers round.answered

  answered : (answers : List (List ℕ)) → step1.does.send ≡ answers → step1.does.discarded ≡ [] → step1.state.performed ≡ p0.outputs.performed
      → IsAnswered answers
  answered answers sent none kept =
      let d = lines.down on (poll ∷ []) [] round.asked round.answered poll_under_way round.down in
      let a : Arrives on Down poll d.0 round.asked round.answered = one_arrives on Down poll d.0 round.asked round.answered d.1 in
      let heard = lines_change substation rest p0 c1 h0 (HearsAt Down) round.asked a.heard a.hears once_asked in
      let back : d.0 ≡ answers = a.sends ∙ substation_sends substation rest p0 c1 h0 poll a.heard heard ∙ sent in
      record {
        is = subst (λ (h : History). IsNow substation rest p1 c1 h round.answered) (none_confirmed step1.does.discarded h0 none)
            (substation_steps substation rest p0 c1 h0 poll a.heard round.answered a.takes heard kept);
        under_way = subst (λ (up : List (List ℕ)). UnderWay on [] up round.answered) back d.2;
      }

  -- what the round ends with
  record IsDone (p : Parts) (c : ConcentratorState) (h : History) : Type 0 where
    left : Leave portion p0.lanes p.lanes
    outputs : p.outputs ≡ p0.outputs
    is : IsNow substation rest p c (with_confirmed substation portion.rows h) new

  with_performed : (xs : List Command) → xs ≡ p0.outputs.performed → record p0.outputs { performed = xs } ≡ p0.outputs
  with_performed xs same = ap (λ (ys : List Command). record p0.outputs { performed = ys }) same

  -- no row moves, and the round ends as it was
  rested : (c : ConcentratorState) (h : History) (before : System) → portion.rows ≡ [] → step1.state.lanes ≡ p0.lanes
      → step1.state.performed ≡ p0.outputs.performed → new ≡ before → IsNow substation rest p1 c h before → IsDone p1 c h
  rested c h before none lanes kept same is = record {
    left = Rested none lanes;
    outputs = with_performed step1.state.performed kept;
    is = subst (λ (s : System). IsNow substation rest p1 c (with_confirmed substation portion.rows h) s) (sym same)
        (subst (λ (x : History). IsNow substation rest p1 c x before) (sym (none_confirmed portion.rows h none)) is);
  }

  -- ---- a fragment is exchanged
  module _ (x : Exchange link.master old.now (state_in p0) (panel_in p0) portion) where
    abbrev c2 : ConcentratorState
    c2 = concentrator_taken c1 substation x.taken

    abbrev h2 : History
    h2 = with_dropped (dropped_for c1 substation x.taken) h0

    record IsTaken : Type 0 where
      is : IsNow substation rest p1 c2 h2 round.taken
      under_way : UnderWay on (option_to_list x.confirm) [] round.taken

    -- it comes, and is taken
    taken : IsTaken
    taken =
        let t : Taking = x.taken in
        let before = answered (x.fragment ∷ []) x.sent x.discarded x.performed in
        let u = lines.up on [] (x.fragment ∷ []) round.answered round.taken before.under_way round.up in
        let b : Arrives on Up x.fragment u.0 round.answered round.taken = one_arrives on Up x.fragment u.0 round.answered round.taken u.1 in
        let heard = lines_change substation rest p1 c1 h0 (HearsAt Up) round.answered b.heard b.hears before.is in
        let got : receive_of (relaying_at b.heard on).master b.heard.now x.fragment ≡ Ok t =
        ap (λ (c : ConcentratorState). receive_of (link_at c substation).master b.heard.now x.fragment) heard.concentrator
        ∙ ap (λ (r : Relaying). receive_of r.master b.heard.now x.fragment) (set_link old.concentrator.links substation asking begins.low)
        ∙ ap (λ (n : ℕ). receive_of asking.master n x.fragment) heard.now
        ∙ x.is_taken
        in
        let received : MasterReceives on (Ok t) b.heard round.taken =
        subst (λ (r : Result Taking MasterFault). MasterReceives on r b.heard round.taken) got b.takes in
        let sent : u.0 ≡ option_to_list x.confirm = b.sends ∙ ap confirms_of got ∙ ap option_to_list x.confirm_is in
        record {
          is = lines_change substation rest p1 c2 h2 (GoDown (option_to_list t.confirm)) (taken_below b.heard substation t) round.taken received.1
              (rows_taken substation rest p1 c1 h0 t b.heard heard);
          under_way = subst (λ (down : List (List ℕ)). UnderWay on down [] round.taken) sent u.2;
        }

    -- where it asks for a confirm that comes, and releases the rows
    confirms : (o : Option (List ℕ)) → x.confirm ≡ o → UnderWay on (option_to_list o) [] round.taken → (p : Parts) × IsDone p c2 h2
    confirms (Some octets) is under_way =
        let d = lines.down on (octets ∷ []) [] round.taken new under_way round.confirms in
        let a : Arrives on Down octets d.0 round.taken new = one_arrives on Down octets d.0 round.taken new d.1 in
        let heard = lines_change substation rest p1 c2 h2 (HearsAt Down) round.taken a.heard a.hears taken.is in
        let step2 : Step = step_in p1 old.now octets in
        let r : Frees portion p0.lanes p1.outputs.performed step2 = x.frees octets is p1.outputs.performed (panel_in p1) in (
          parts_after p1 step2,
          record {
            left = Released x.released r.lanes;
            outputs = with_performed step2.state.performed (r.performed_is ∙ x.performed);
            is = subst (λ (xs : List Row). IsNow substation rest (parts_after p1 step2) c2 (with_confirmed substation xs h2) new) r.discarded
                (substation_steps substation rest p1 c2 h2 octets a.heard new a.takes heard r.performed_is);
          },
        )
    confirms None is under_way =
        let d = lines.down on [] [] round.taken new under_way round.confirms in
        (p1, rested c2 h2 round.taken (x.none is) x.lanes x.performed d.1.1 taken.is)

  -- ---- the poll is passed over
  passes : step1 ≡ still (state_in p0) → portion ≡ no_rows → IsDone p1 c1 h0
  passes rests none =
      let kept : step1.state.performed ≡ p0.outputs.performed = ap (λ (step : Step). step.state.performed) rests in
      let before = answered [] (ap (λ (step : Step). step.does.send) rests) (ap (λ (step : Step). step.does.discarded) rests) kept in
      let u = lines.up on [] [] round.answered round.taken before.under_way round.up in
      let quiet : UnderWay on [] [] round.taken = subst (λ (down : List (List ℕ)). UnderWay on down [] round.taken) u.1.0 u.2 in
      let d = lines.down on [] [] round.taken new quiet round.confirms in
      rested c1 h0 round.answered (ap (λ (x : Portion). x.rows) none) (ap (λ (step : Step). step.state.lanes) rests) kept (d.1.1 ∙ u.1.1) before.is

  -- ---- all of it

  pub record Moved (after : master.State) : Type 0 where
    pub moves : MovesBelow substation portion_in old new
    pub master_is : (relaying_at new on).master ≡ after

  abbrev queued : List Row → EventBuffer
  queued rows = with_rows old.concentrator.queue (rows_queued old.concentrator substation rows)

  abbrev lost : List Row → List Row
  lost rows = dropped_by old.concentrator.queue (rows_queued old.concentrator substation rows)

  -- of the concentrator the points, the queue and the links change
  only_queue : (c : ConcentratorState) → c ≡ record old.concentrator { core = c.core; queue = queued portion.rows; links = c.links }
      → new.concentrator ≡ c → new.concentrator ≡ record old.concentrator {
        core = new.concentrator.core;
        queue = queued portion.rows;
        links = new.concentrator.links;
      }
  only_queue c is same =
      same ∙ is
      ∙ ap (λ (x : ConcentratorState). record old.concentrator { core = x.core; queue = queued portion.rows; links = x.links }) (sym same)

  moved : (p : Parts) (c : ConcentratorState) (h : History) (after : master.State)
      → length (rows_queued old.concentrator substation portion.rows) ≡ length portion.rows → IsDone p c h
      → c ≡ record old.concentrator { core = c.core; queue = queued portion.rows; links = c.links }
      → h ≡ with_dropped (lost portion.rows) h0 → (link_at c substation).master ≡ after → Moved after
  moved p c h after all done queue dropped now =
      let s = parts_there (slice_get new.substations substation) p done.is.parts in
      record {
        moves = record {
          was = begins.was;
          is = s.0;
          was_there = begins.there;
          is_there = s.1;
          left = subst (λ (q : Parts). Leave portion p0.lanes q.lanes) (sym s.2) done.left;
          outputs = ap (λ (q : Parts). q.outputs) s.2 ∙ done.outputs;
          all_queued = all;
          concentrator = only_queue c queue done.is.concentrator;
          history = done.is.history ∙ ap (with_confirmed substation portion.rows) dropped;
          others = done.is.others;
          centre = done.is.centre;
        };
        master_is = ap (λ (x : ConcentratorState). (link_at x substation).master) done.is.concentrator ∙ now;
      }

  pub moves : length (rows_queued old.concentrator substation portion.rows) ≡ length portion.rows
      → (answer : Answer link.master old.now (state_in p0) (panel_in p0) portion)
      → Moved (master_after link.master old.now (state_in p0) (panel_in p0) portion answer)
  moves all (Exchanges x) =
      let done = confirms x x.confirm refl (taken x).under_way in
      let low : substation < length c1.links = omega (arith, begins.low, length-set old.concentrator.links substation asking) in
      moved done.0 (c2 x) (h2 x) x.taken.state all done.1
      (ap (λ (rows : List Row). record old.concentrator { core = (c2 x).core; queue = queued rows; links = (c2 x).links }) x.events)
      (ap (λ (rows : List Row). with_dropped (lost rows) h0) x.events)
      (ap (λ (r : Relaying). r.master) (set_link c1.links substation (relaying.received (link_at c1 substation) x.taken) low))
  moves all (Passes rests none) =
      let no : [] ≡ portion.rows = sym (ap (λ (x : Portion). x.rows) none) in
      moved p1 c1 h0 asking.master all (passes rests none)
      (ap (λ (rows : List Row). record old.concentrator { core = c1.core; queue = queued rows; links = c1.links }) no)
      (ap (λ (rows : List Row). record h0 { dropped = rows }) (sym (append-nil h0.dropped)) ∙ ap (λ (rows : List Row). with_dropped (lost rows) h0) no)
      (ap (λ (r : Relaying). r.master) (set_link old.concentrator.links substation asking begins.low))
