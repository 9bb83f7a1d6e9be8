-- What an event changes of the concentrator and of the centre.
use Rattle.std.proofs.Common.{◌≡◌, ◌≢◌, ◌⊎◌, ℕ, Bool, true, false, if◌then◌else◌, List, [], ◌∷◌, map, Option, Some, None, Result, Ok, Err, IfOk, refl, sym, ap, ◌∙◌, subst, inl, inr}
use Rattle.std.specs.Prelude.{slice_set}
use Rattle.dnp_concentrator.specs.Below.{link_in, readings_set}
use Rattle.dnp_concentrator.specs.BookOutputs.{all_added}
use Rattle.dnp_concentrator.specs.Concentrator.{without_link}
use Rattle.dnp_concentrator.specs.Relaying as relaying
use Rattle.dnp_concentrator.specs.Relaying.{Relaying, hung_up}
use Rattle.dnp_concentrator.specs.declared.span.Spans.{Spans}
use Rattle.dnp_controls.specs.Book.{Ledger}
use Rattle.dnp_controls.specs.Panel.{Panel}
use Rattle.dnp_eventbuf.specs.EventBuffer.{EventBuffer}
use Rattle.dnp_line.specs.Lines.{LineState, delivered_on, repeated_on}
use Rattle.dnp_master.specs.Calls.{Taking, receive_of}
use Rattle.dnp_master.specs.declared.fault.MasterFault.{MasterFault}
use Rattle.dnp_master.specs.declared.task.Task.{Task}
use Rattle.dnp_objects.specs.declared.command.Command.{Command}
use Rattle.dnp_objects.specs.declared.row.Row.{Row}
use Rattle.dnp_outstation.specs.Calls.{connection_after, opened_of, performed_for, restarted_core, tick_of}
use Rattle.dnp_outstation.specs.Connection.{case_of, closed}
use Rattle.dnp_outstation.specs.Links.{ReleasesNone}
use Rattle.dnp_outstation.specs.State.{Core, State}
use Rattle.dnp_outstation.specs.Station.{with_points}
use Rattle.dnp_outstation.specs.declared.case.Case.{Case}
use Rattle.dnp_outstation.specs.declared.case.Case.TheVariants as case
use Rattle.dnp_pointdb.specs.Database.{answer_of}
use Rattle.dnp_pointdb.specs.declared.fault.ChangeFault.{ChangeFault}
use Rattle.dnp_pointdb.specs.declared.reading.Reading.{Reading}
use Rattle.dnp_objects.specs.declared.lane.LaneRow.{LaneRow}
use Rattle.dnp_objects.specs.declared.row.Kind.{Kind}
use Rattle.dnp_concentrator.specs.Mapped.{command_above}
use Rattle.dnp_world.specs.Channels.{ChannelState}
use Rattle.dnp_world.specs.OneLinkEvents.{is_own}
use Rattle.dnp_world.specs.Reopened.{CentreWritesOne, WriteOne, WritesOne}
use Rattle.dnp_world.specs.SystemEvents as system
use Rattle.dnp_world.specs.SystemEvents.{Refuses, Steps, AsksOn, ChangesAt, ComesOn, ComesUp, HangsUpOn, IssuesBy, LinesChange, MasterReceives, MasterTakes, MasterTicks, MiddleAnswers, OpensOn, OutstationTicks, ReadsBy, RelaysOn, SubstationRestarts, relaying_at, step_on, taken_on, told, with_link, with_lost, with_centre_link, with_relaying, concentrator_restarted}
use Rattle.dnp_world.specs.SystemRuns.{Happens, IfThere}
use Rattle.dnp_world.specs.Systems.{CentreState, ConcentratorState, SubstationState, System, has_link, has_substation, link_at, middle_of, middle_panel}
use Rattle.dnp_world.specs.declared.event.Event.{Event}
use Rattle.dnp_world.specs.declared.event.Event.TheVariants as event
use Rattle.dnp_world.specs.declared.event.Link.{Link}
use Rattle.dnp_world.specs.declared.event.Link.TheVariants.{Below, Above}
use Rattle.dnp_world.specs.declared.event.Place.TheVariants as place
use Rattle.dnp_world.specs.declared.link_event.End.{End}
use Rattle.dnp_world.specs.declared.link_event.End.TheVariants as end
use Rattle.dnp_world.specs.declared.link_event.Way.{Way}
use Rattle.dnp_world.specs.declared.link_event.Way.TheVariants as way
use Rattle.dnp_world.proofs.Restarted.{nothing_written, same_centre, same_middle}

-- what the crates below promise
pub record Forgets : Type 0 where
  pub opened : (s : State) (now : ℕ) → restarted_core (opened_of s now).state.core ≡ restarted_core s.core
  pub received : (s : State) (o : Panel) (now : ℕ) (octets : List ℕ) → restarted_core (connection_after s o now octets).state.core ≡ restarted_core s.core
  pub ticked : (s : State) (now : ℕ) → restarted_core (tick_of s now).state.core ≡ restarted_core s.core
  pub closes : (c : Core) → restarted_core (closed c) ≡ restarted_core c
  pub again : (c : Core) → restarted_core (restarted_core c) ≡ restarted_core c
  pub read : (c : Core) (spans : List Spans) (substation : ℕ) (events statics : List Row)
      → restarted_core (with_points c (readings_set spans substation (readings_set spans substation c.points events) statics)) ≡ restarted_core c
  pub lost : (c : Core) (number : ℕ) → restarted_core (without_link c number) ≡ restarted_core c
  pub link_opened : (r : Relaying) → hung_up (relaying.opened r) ≡ hung_up r
  pub link_again : (r : Relaying) → hung_up (hung_up r) ≡ hung_up r
  pub link_ticked : (r : Relaying) (now : ℕ) → hung_up (relaying.ticked r now) ≡ hung_up r
  pub link_asked : (r : Relaying) (now : ℕ) (task : Task) → hung_up (relaying.asking r now task) ≡ hung_up r
  pub link_received : (r : Relaying) (now : ℕ) (octets : List ℕ)
      → IfOk (receive_of r.master now octets) (λ t. hung_up (relaying.received r t) ≡ hung_up r)
  pub link_relayed : (r : Relaying) (now : ℕ) (step : relaying.Step) → hung_up (relaying.relaying_after r now step) ≡ hung_up r
  pub one_link : (links : List Relaying) (number : ℕ) (r : Relaying) → hung_up r ≡ hung_up (link_in links number)
      → map hung_up (slice_set links number r) ≡ map hung_up links
  pub releases : (s : State) (o : Panel) (now : ℕ) (octets : List ℕ) → case_of s.core octets ≢ case.Confirms
      → case_of s.core octets ≢ case.ConfirmsUnsolicited → ReleasesNone s (connection_after s o now octets)

-- ---- places as they were

-- the two places; the lines, the moment and the history are others
record Places : Type 0 where
  middle : ConcentratorState
  centre : CentreState

abbrev places_of : System → Places
places_of s = record { middle = s.concentrator; centre = s.centre }

after : (old x new : System) → WriteOne old x → places_of new ≡ places_of x → WriteOne old new
after old x new w same = record {
  concentrator = subst (λ (p : Places). WritesOne old.concentrator p.middle) (sym same) w.concentrator;
  centre = subst (λ (p : Places). CentreWritesOne old.centre p.centre) (sym same) w.centre;
}

-- and before
from_same : (old between new : System) → places_of between ≡ places_of old → WriteOne between new → WriteOne old new
from_same old between new same w = record {
  concentrator = subst (λ (p : Places). WritesOne p.middle new.concentrator) same w.concentrator;
  centre = subst (λ (p : Places). CentreWritesOne p.centre new.centre) same w.centre;
}

same_system : (old new : System) → new ≡ old → WriteOne old new
same_system old new same = after old old new (nothing_written old) (ap places_of same)

-- the lines change alone
lines_same : (on : Link) (Change : ChannelState → ChannelState → Type 0) (x new : System) → LinesChange on Change x new → places_of new ≡ places_of x
lines_same (Below substation) Change x new c = ap places_of c.after
lines_same (Above centre) Change x new c = ap places_of c.1

lines_after : (on : Link) (Change : ChannelState → ChannelState → Type 0) (old x new : System) → WriteOne old x → LinesChange on Change x new
    → WriteOne old new
lines_after on Change old x new w c = after old x new w (lines_same on Change x new c)

-- a substation changes, and what its change makes of the rest
changes_after : (substation : ℕ) (Change : SubstationState → SubstationState → Type 0) (rest : SubstationState → SubstationState → System → System)
    (old x new : System) → ((was is : SubstationState) (s : System) → places_of (rest was is s) ≡ places_of s)
    → WriteOne old x → ChangesAt substation Change rest x new → WriteOne old new
changes_after substation Change rest old x new same w h = after old x new w (ap places_of h.after ∙ same h.was h.is _)

if_there : (b : Bool) (Change : System → System → Type 0) (old new : System) → (Change old new → WriteOne old new) → IfThere b Change old new
    → WriteOne old new
if_there true Change old new writes h = writes h
if_there false Change old new writes same = same_system old new same

-- ---- one of the two places

middle_only : (old : System) (c : ConcentratorState) → WritesOne old.concentrator c → WriteOne old (record old { concentrator = c })
middle_only old c w = record { concentrator = w; centre = same_centre old.centre }

centre_only : (old : System) (c : CentreState) → CentreWritesOne old.centre c → WriteOne old (record old { centre = c })
centre_only old c w = record { concentrator = same_middle old.concentrator; centre = w }

module _ (f : Forgets) where
  link_one : (c : ConcentratorState) (substation : ℕ) (r : Relaying) → hung_up r ≡ hung_up (link_at c substation)
      → WritesOne c (record c { links = slice_set c.links substation r })
  link_one c substation r same =
      record { above = refl; below = f.one_link c.links substation r same; indices = refl; points = refl; one = inl refl }

  -- and its readings above are lost
  lost_one : (c : ConcentratorState) (substation : ℕ) (r : Relaying) → hung_up r ≡ hung_up (link_at c substation)
      → WritesOne c (record c { core = without_link c.core substation; links = slice_set c.links substation r })
  lost_one c substation r same =
      record { above = f.lost c.core substation; below = f.one_link c.links substation r same; indices = refl; points = refl; one = inl refl }

  with_link_one : (old : System) (substation : ℕ) (r : Relaying) → hung_up r ≡ hung_up (link_at old.concentrator substation)
      → WriteOne old (with_link old substation r)
  with_link_one old substation r same = middle_only old _ (link_one old.concentrator substation r same)

  with_centre_one : (old : System) (r : Relaying) → hung_up r ≡ hung_up old.centre.link → WriteOne old (with_centre_link old r)
  with_centre_one old r same = centre_only old (record old.centre { link = r }) (record { link = same; indices = refl; one = inl refl })

  on_link : (on : Link) (old : System) (r : Relaying) → hung_up r ≡ hung_up (relaying_at old on) → WriteOne old (with_relaying old on r)
  on_link (Below substation) old r same = with_link_one old substation r same
  on_link (Above centre) old r same = with_centre_one old r same

  -- the outstation above takes a step, in which it changes its queue or performs commands
  middle_one : (c : ConcentratorState) (core : Core) (queue : EventBuffer) (controls : Ledger) → restarted_core core ≡ restarted_core c.core
      → (queue ≡ c.queue) ⊎ (controls ≡ c.controls) → WritesOne c (record c { core = core; queue = queue; controls = controls })
  middle_one c core queue controls same one = record { above = same; below = refl; indices = refl; points = refl; one = one }

  -- ---- events

  opens : (on : Link) (old new : System) → OpensOn on old new → WriteOne old new
  opens (Below substation) old new h =
      let r : Relaying = link_at old.concentrator substation in
      changes_after substation _ _ old (with_link old substation (relaying.opened r)) new (λ was is s. refl)
      (with_link_one old substation (relaying.opened r) (f.link_opened r)) h
  opens (Above centre) old new h =
      let c : ConcentratorState = old.concentrator in
      after old (with_centre_link (record old { concentrator = _ }) (relaying.opened old.centre.link)) new (record {
        concentrator = middle_one c _ _ _ (f.opened (middle_of c) old.now) (inr refl);
        centre = record { link = f.link_opened old.centre.link; indices = refl; one = inl refl };
      }) (ap places_of h.after)

  hangs_up : (on : Link) (e : End) (old new : System) → HangsUpOn on e old new → WriteOne old new
  hangs_up (Below substation) end.Master old new h =
      let r : Relaying = link_at old.concentrator substation in
      changes_after substation _ _ old (with_lost (with_link old substation (relaying.hung_up r)) substation) new (λ was is s. refl)
      (middle_only old _ (lost_one old.concentrator substation (relaying.hung_up r) (f.link_again r))) h
  hangs_up (Below substation) end.Outstation old new h = changes_after substation _ _ old old new (λ was is s. refl) (nothing_written old) h
  hangs_up (Above centre) end.Master old new h =
      after old (with_centre_link old (relaying.hung_up old.centre.link)) new
      (with_centre_one old (relaying.hung_up old.centre.link) (f.link_again old.centre.link)) (ap places_of h)
  hangs_up (Above centre) end.Outstation old new h =
      let c : ConcentratorState = old.concentrator in
      after old (record old { concentrator = record c { core = closed c.core } }) new
      (middle_only old _ (record { above = f.closes c.core; below = refl; indices = refl; points = refl; one = inl refl })) (ap places_of h)

  -- what it says of each case of what came
  heard_one : (c : ConcentratorState) (now : ℕ) (fragment : List ℕ) (x : Case) → case_of c.core fragment ≡ x
      → ((connection_after (middle_of c) (middle_panel c now) now fragment).state.lanes ≡ c.queue)
      ⊎ (all_added c.indices c.controls (performed_for c.core (middle_panel c now) now fragment x) ≡ c.controls)
  heard_one c now fragment case.Asks is =
      inl (f.releases (middle_of c) (middle_panel c now) now fragment (λ other. cc (sym is ∙ other)) (λ other. cc (sym is ∙ other))).lanes
  heard_one c now fragment x is = inr refl

  middle_answers : (given : List (List ℕ)) (old new : System) → MiddleAnswers given old new → WriteOne old new
  middle_answers [] old new same = same_system old new same
  middle_answers (fragment ∷ others) old new m =
      let c : ConcentratorState = old.concentrator in
      after old (record old { concentrator = _ }) new
      (middle_only old _ (middle_one c _ _ _ (f.received (middle_of c) (middle_panel c old.now) old.now fragment)
      (heard_one c old.now fragment (case_of c.core fragment) refl)))
      (ap places_of m.after)

  -- the master's part of what it took
  taken_link : (r : Relaying) (now : ℕ) (fragment : List ℕ) (t : Taking) → receive_of r.master now fragment ≡ Ok t
      → hung_up (relaying.received r t) ≡ hung_up r
  taken_link r now fragment t is =
      subst (λ (x : Result Taking MasterFault). IfOk x (λ y. hung_up (relaying.received r y) ≡ hung_up r)) is (f.link_received r now fragment)

  receives : (on : Link) (now : ℕ) (fragment : List ℕ) (r : Result Taking MasterFault) (old new : System)
      → receive_of (relaying_at old on).master now fragment ≡ r → MasterReceives on r old new → WriteOne old new
  receives (Below substation) now fragment (Ok t) old new is h =
      let c : ConcentratorState = old.concentrator in
      let r : Relaying = link_at c substation in
      lines_after (Below substation) _ old (taken_on old (Below substation) t) new (record {
        concentrator = record {
          above = f.read c.core c.indices substation t.events t.statics;
          below = f.one_link c.links substation (relaying.received r t) (taken_link r now fragment t is);
          indices = refl;
          points = refl;
          one = inr refl;
        };
        centre = same_centre old.centre;
      }) h.1
  receives (Above centre) now fragment (Ok t) old new is h =
      after old (taken_on old (Above centre) t) new (record {
        concentrator = same_middle old.concentrator;
        centre = record { link = taken_link old.centre.link now fragment t is; indices = refl; one = inr refl };
      }) (ap places_of h.1.1)
  receives on now fragment (Err fault) old new is same = same_system old new same

  takes : (on : Link) (given : List (List ℕ)) (old new : System) → MasterTakes on given old new → WriteOne old new
  takes on [] old new same = same_system old new same
  takes on (fragment ∷ others) old new h = receives on old.now fragment _ old new refl h

  comes_up : (left : LineState → LineState) (on : Link) (old new : System) → ComesUp left on old new → WriteOne old new
  comes_up left on old new c =
      from_same old c.between new (lines_same on _ old c.between c.heard) (takes on c.given c.between new c.came)

  comes : (left : LineState → LineState) (on : Link) (w : Way) (old new : System) → ComesOn left on w old new → WriteOne old new
  comes left (Below substation) way.Down old new c = changes_after substation _ _ old old new (λ was is s. refl) (nothing_written old) c.came
  comes left (Above centre) way.Down old new c =
      from_same old (record old { above = record old.above { down = left old.above.down; outstation_port = c.port } }) new refl
      (middle_answers c.given (record old { above = record old.above { down = left old.above.down; outstation_port = c.port } }) new c.came)
  comes left (Below substation) way.Up old new c = comes_up left (Below substation) old new c
  comes left (Above centre) way.Up old new c = comes_up left (Above centre) old new c

  reads_by : (substation : ℕ) (kind : Kind) (index : ℕ) (reading : Reading) (r : Result (Option LaneRow) ChangeFault) (was : SubstationState) (old new : System)
      → ReadsBy r substation kind index reading was old new → WriteOne old new
  reads_by substation kind index reading (Ok made) was old new h = changes_after substation _ _ old old new (λ x is s. refl) (nothing_written old) h.1
  reads_by substation kind index reading (Err fault) was old new same = same_system old new same

  asks : (own : Bool) (on : Link) (task : Task) (old new : System) → AsksOn own on task old new → WriteOne old new
  asks true on task old new c =
      let r : Relaying = relaying_at old on in
      lines_after on _ old (with_relaying old on (relaying.asking r old.now task)) new
      (on_link on old (relaying.asking r old.now task) (f.link_asked r old.now task)) c
  asks false on task old new same = same_system old new same

  issues : (o : Option Command) (substation : ℕ) (command : Command) (old new : System) → IssuesBy o substation command old new → WriteOne old new
  issues None substation command old new same = same_system old new same
  issues (Some above) substation command old new h =
      after old (record old { centre = record old.centre { orders = _ } }) new
      (centre_only old _ (record { link = refl; indices = refl; one = inl refl })) (ap places_of h.2)

  relays : (on : Link) (old new : System) → RelaysOn on old new → WriteOne old new
  relays (Below substation) old new (Steps granted sends) =
      let c : ConcentratorState = old.concentrator in
      let r : Relaying = link_at c substation in
      let step : relaying.Step = step_on old (Below substation) in
      lines_after (Below substation) _ old (with_link (told old (Below substation) step) substation (relaying.relaying_after r old.now step)) new
      (middle_only old _ (record {
        above = refl;
        below = f.one_link c.links substation (relaying.relaying_after r old.now step) (f.link_relayed r old.now step);
        indices = refl;
        points = refl;
        one = inl refl;
      })) sends
  relays (Above centre) old new (Steps granted sends) =
      let r : Relaying = old.centre.link in
      let step : relaying.Step = step_on old (Above centre) in
      after old (with_centre_link (told old (Above centre) step) (relaying.relaying_after r old.now step)) new
      (centre_only old _ (record { link = f.link_relayed r old.now step; indices = refl; one = inl refl }))
      (ap places_of sends.1)
  relays on old new (Refuses refused same) = same_system old new same

  master_ticks : (on : Link) (old new : System) → MasterTicks on old new → WriteOne old new
  master_ticks (Below substation) old new h = by _ h
    where
      r : Relaying
      r = link_at old.concentrator substation

      ticked : System
      ticked = with_link old substation (relaying.ticked r old.now)

      by : (b : Bool) → new ≡ (if b then with_lost ticked substation else ticked) → WriteOne old new
      by true is =
          after old (with_lost ticked substation) new
          (middle_only old _ (lost_one old.concentrator substation (relaying.ticked r old.now) (f.link_ticked r old.now))) (ap places_of is)
      by false is = after old ticked new (with_link_one old substation (relaying.ticked r old.now) (f.link_ticked r old.now)) (ap places_of is)
  master_ticks (Above centre) old new h =
      let r : Relaying = old.centre.link in
      after old (with_centre_link old (relaying.ticked r old.now)) new
      (with_centre_one old (relaying.ticked r old.now) (f.link_ticked r old.now)) (ap places_of h)

  ticks : (on : Link) (old new : System) → OutstationTicks on old new → WriteOne old new
  ticks (Below substation) old new h = changes_after substation _ _ old old new (λ was is s. refl) (nothing_written old) h
  ticks (Above centre) old new m =
      let c : ConcentratorState = old.concentrator in
      after old (record old { concentrator = _ }) new
      (middle_only old _ (middle_one c _ _ _ (f.ticked (middle_of c) old.now) (inr refl)))
      (ap places_of m.after)

  each_again : (links : List Relaying) → map hung_up (map hung_up links) ≡ map hung_up links
  each_again [] = refl
  each_again (r ∷ links) =
      ap (λ (x : Relaying). x ∷ map hung_up (map hung_up links)) (f.link_again r) ∙ ap (λ (xs : List Relaying). hung_up r ∷ xs) (each_again links)

  restarts : (old new : System) → new ≡ concentrator_restarted old → WriteOne old new
  restarts old new h =
      after old (concentrator_restarted old) new (record {
        concentrator = record {
          above = f.again old.concentrator.core;
          below = each_again old.concentrator.links;
          indices = refl;
          points = refl;
          one = inl refl;
        };
        centre = same_centre old.centre;
      }) (ap places_of h)

  pub writes_one : (old new : System) (e : Event) → Happens old e new → WriteOne old new
  writes_one old new (event.Open on) h = if_there (has_link old on) (OpensOn on) old new (opens on old new) h
  writes_one old new (event.HangUp on e) h = if_there (has_link old on) (HangsUpOn on e) old new (hangs_up on e old new) h
  writes_one old new (event.Deliver on w) h = if_there (has_link old on) (ComesOn delivered_on on w) old new (comes delivered_on on w old new) h
  writes_one old new (event.Repeat on w) h = if_there (has_link old on) (ComesOn repeated_on on w) old new (comes repeated_on on w old new) h
  writes_one old new (event.Lose on w) h = if_there (has_link old on) _ old new (λ c. lines_after on _ old old new (nothing_written old) c) h
  writes_one old new (event.Damage on w octets) h = if_there (has_link old on) _ old new (λ c. lines_after on _ old old new (nothing_written old) c) h
  writes_one old new (event.Change substation kind index reading) h =
      if_there (has_substation old substation) (system.Reads substation kind index reading) old new
      (λ c. reads_by substation kind index reading (answer_of c.was.core.points kind index reading) c.was old new c.reads) h
  writes_one old new (event.Ask on task) h = if_there (has_link old on) (AsksOn (is_own task) on task) old new (asks (is_own task) on task old new) h
  writes_one old new (event.Issue centre substation command) h = issues (command_above old.centre.indices substation command) substation command old new h
  writes_one old new (event.Relay on) h = if_there (has_link old on) (RelaysOn on) old new (relays on old new) h
  writes_one old new (event.Pass ms) h = after old old new (nothing_written old) (ap places_of h)
  writes_one old new (event.Tick on end.Master) h = if_there (has_link old on) (MasterTicks on) old new (master_ticks on old new) h
  writes_one old new (event.Tick on end.Outstation) h = if_there (has_link old on) (OutstationTicks on) old new (ticks on old new) h
  writes_one old new (event.Restart (place.Centre centre)) h = hangs_up (Above centre) end.Master old new h
  writes_one old new (event.Restart place.Concentrator) h = restarts old new h
  writes_one old new (event.Restart (place.Substation substation)) h =
      if_there (has_substation old substation) (SubstationRestarts substation) old new
      (λ c. changes_after substation _ _ old old new (λ was is s. refl) (nothing_written old) c) h
