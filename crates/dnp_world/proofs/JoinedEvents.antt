-- Each event of a link of real stations.
use Rattle.std.proofs.Common.{◌≡◌, ℕ, ◌<◌, ◌^◌, Bool, true, false, List, [], ◌++◌, length, map, refl, sym, ap, ◌∙◌, subst, append-nil, arith}
use Rattle.std.specs.List.{All}
use Rattle.std.specs.List.Sorted.{IsPermutation}
use Rattle.std.proofs.lemmas.Bool.{both_ways}
use Rattle.std.proofs.lemmas.List.{map-append, drop_all}
use Rattle.std.proofs.lemmas.List.Elements.{All-nil}
use Rattle.dnp_objects.specs.declared.row.Row.{Row}
use Rattle.dnp_controls.specs.Panel.{Panel}
use Rattle.dnp_eventbuf.specs.Buffered.{Buffered, buffered_row}
use Rattle.dnp_eventbuf.specs.EventBuffer.{arriving}
use Rattle.dnp_line.specs.Lines.{LineState, lost_on, delivered_on, repeated_on}
use Rattle.dnp_line.specs.Ports.{reset_of}
use Rattle.dnp_outstation.specs.Calls.{tick_of, opened_of, restart_of, emptied_of}
use Rattle.dnp_outstation.specs.Connection.{closed}
use Rattle.dnp_outstation.specs.State.{Step, nothing, still}
use Rattle.dnp_pointdb.specs.Runs.{rows_of}
use Rattle.dnp_world.specs.declared.link_event.End.TheVariants as end
use Rattle.dnp_world.specs.declared.link_event.Way.TheVariants as way
use Rattle.dnp_world.specs.declared.link_event.LinkEvent.{LinkEvent}
use Rattle.dnp_world.specs.declared.link_event.LinkEvent.TheVariants as event
use Rattle.dnp_world.specs.Channels.{ChannelState, hung_up_at, left_by}
use Rattle.dnp_world.specs.Joined.{Carries, Joined, Follows, point_moves}
use Rattle.dnp_world.specs.LawLink.{LawLink}
use Rattle.dnp_world.specs.Moves.{LoseDown, Open, lost_down, opened}
use Rattle.dnp_world.specs.OneLinkEvents.{LinkState, Steps, ComesDown, ComesUp, HappensOn, opening, outstation_gone, outstation_restarted}
use Rattle.dnp_world.specs.OutstationSeen.{octets_of, ShowOctets, Simulates}
use Rattle.dnp_world.specs.Standing.{CarriesLaw}
use Rattle.dnp_world.specs.steps.MoveLaws.{MoveLaws}
use Rattle.dnp_world.proofs.JoinedChanges.{change_follows}
use Rattle.dnp_world.proofs.JoinedMaster.{came_up, asks_follow, tick_follows, master_goes}
use Rattle.dnp_world.proofs.JoinedPoints.{opened_leaves, ticked_leaves}
use Rattle.dnp_world.proofs.JoinedSteps.{Beside, after_step, left_behind, plain_step, shows_still, stays_as, moves_before, came_down, with_lines}
use Rattle.dnp_world.proofs.JoinedWays.{carries_still, carries_cleared, carries_mute, carries_opened, carries_lost, carries_damaged, carries_delivered, carries_repeated, heard_port, CarriesOver}
use Rattle.dnp_world.proofs.OutstationSteps.{moves_after, one_move}

-- ---- the front unit of a line

comes_down : {Sink : Type 0} → MoveLaws → (left : LineState → LineState) → CarriesOver left → (panel : Panel) → ShowOctets panel → (others : List Row)
    (s new : LinkState Sink) (l : LawLink) → CarriesLaw l → Joined others s l → ComesDown panel (left s.channel.down) s new
    → Follows others [] [] s.outstation.performed l new
comes_down laws left over panel shown others s new l stands j h =
    let was : ChannelState = s.channel in
    came_down laws panel shown others s new l (left was.down) h.port h.given stands j (heard_port _ was.outstation_port h.port [] h.given h.heard)
    (over was.down was.master_port was.outstation_port h.port s.master.is_open j.going_down h.given h.heard j.down) h.came

comes_up : {Sink : Type 0} → MoveLaws → (left : LineState → LineState) → CarriesOver left → (takes : Sink → List Row → List Row → List Row → Sink → Type 0)
    (others : List Row) (s new : LinkState Sink) (l : LawLink) → CarriesLaw l → Joined others s l → ComesUp takes (left s.channel.up) s new
    → Follows others [] [] s.outstation.performed l new
comes_up laws left over takes others s new l stands j h =
    let was : ChannelState = s.channel in
    came_up laws takes others s new l (left was.up) h.port h.given stands j (heard_port _ was.master_port h.port [] h.given h.heard)
    (over was.up was.outstation_port was.master_port h.port s.outstation.core.is_open (map octets_of l.up) h.given h.heard j.up) h.came

-- ---- the outstation goes

goes_away : {Sink : Type 0} → MoveLaws → (others : List Row) (s new : LinkState Sink) (l : LawLink) (step : Step) → step.does.send ≡ []
    → step.does.discarded ≡ []
    → step.state.core.is_open ≡ false → Joined others s l → Simulates s.outstation [] step l
    → new ≡ record s { outstation = step.state; channel = hung_up_at end.Outstation s.channel; left = s.left ++ step.does.overwritten }
    → Follows others [] [] s.outstation.performed l new
goes_away {Sink = Sink} laws others s new l step silent none closes j sim h =
    let all : ℕ = length sim.link.down in
    let link : LawLink = lost_down all sim.link in
    let after : LinkState Sink = record s { outstation = step.state; channel = hung_up_at end.Outstation s.channel; left = s.left ++ step.does.overwritten } in
    let up_is : map octets_of sim.link.up ≡ map octets_of l.up =
    ap (map octets_of) sim.up ∙ map-append octets_of l.up sim.sent ∙ ap (λ (fs : List (List ℕ)). map octets_of l.up ++ fs) (sim.octets ∙ silent)
    ∙ append-nil (map octets_of l.up) in
    let up : Carries s.channel.up (reset_of s.channel.outstation_port) s.channel.master_port step.state.core.is_open (map octets_of l.up) =
    carries_still s.channel.up (reset_of s.channel.outstation_port) s.channel.master_port false step.state.core.is_open (map octets_of l.up) (λ e. closes)
    (carries_mute laws.line s.channel.up s.channel.outstation_port s.channel.master_port s.outstation.core.is_open (map octets_of l.up) j.up) in
    let joined : Joined others after link = record {
      outstation = shows_still step.state sim.link link refl refl refl sim.shows;
      master = sim.master.master ∙ j.master;
      number = j.number;
      going_down = [];
      down = carries_cleared laws.line s.channel.down s.channel.master_port s.channel.outstation_port s.master.is_open j.going_down j.down;
      down_is = drop_all all sim.link.down (omega arith);
      octets = All-nil (All (λ octet. octet < 2 ^ 8));
      up = subst (λ (fs : List (List ℕ)). Carries s.channel.up (reset_of s.channel.outstation_port) s.channel.master_port step.state.core.is_open fs)
          (sym up_is) up;
      taken = subst (λ (xs : List Buffered). IsPermutation s.taken (map buffered_row xs)) (sym sim.master.took) j.taken;
      released = sim.released ∙ ap (λ (xs : List Row). map buffered_row l.released ++ xs) none ∙ append-nil (map buffered_row l.released) ∙ j.released;
      left = subst (λ (xs : List Row). IsPermutation xs ((s.left ++ step.does.overwritten) ++ others)) (sym sim.left)
          (left_behind (map buffered_row l.left) s.left others step.does.overwritten j.left);
    } in
    record {
      link = link;
      moves = moves_after l sim.link link sim.moves (one_move sim.link link (LoseDown all refl));
      joined = subst (λ (x : LinkState Sink). Joined others x link) (sym h) joined;
      stood = sim.stood;
      asked_is = sim.master.asked ∙ sym (append-nil l.asked);
      commands = sim.commands;
      performed = ap (λ (x : LinkState Sink). x.outstation.performed) h ∙ sim.performed;
      performed_is = sim.performed_seen;
    }

hangs_up : {Sink : Type 0} → MoveLaws → (others : List Row) (s new : LinkState Sink) (l : LawLink) → Joined others s l → new ≡ outstation_gone s
    → Follows others [] [] s.outstation.performed l new
hangs_up {Sink = Sink} laws others s new l j h =
    let step : Step = still (record s.outstation { core = closed s.outstation.core }) in
    let after : List Row → LinkState Sink = λ left. record s { outstation = step.state; channel = hung_up_at end.Outstation s.channel; left = left } in
    goes_away laws others s new l step refl refl refl j (laws.outstation.closes s.outstation l j.outstation) (h ∙ ap after (sym (append-nil s.left)))

restarts : {Sink : Type 0} → MoveLaws → (others : List Row) (s new : LinkState Sink) (l : LawLink) → Joined others s l
    → new ≡ outstation_restarted s → Follows others [] [] s.outstation.performed l new
restarts laws others s new l j h =
    let step : Step = record { state = restart_of s.outstation false; does = record nothing { overwritten = emptied_of s.outstation false } } in
    goes_away laws others s new l step refl refl refl j (laws.outstation.restarts s.outstation false l j.outstation) h

-- it restarts, and keeps its lanes
pub restarts_kept : {Sink : Type 0} → MoveLaws → (others : List Row) (s new : LinkState Sink) (l : LawLink) → Joined others s l
    → new ≡ record s { outstation = restart_of s.outstation true; channel = hung_up_at end.Outstation s.channel }
    → Follows others [] [] s.outstation.performed l new
restarts_kept {Sink = Sink} laws others s new l j h =
    let step : Step = record { state = restart_of s.outstation true; does = record nothing { overwritten = emptied_of s.outstation true } } in
    let after : List Row → LinkState Sink = λ left. record s { outstation = step.state; channel = hung_up_at end.Outstation s.channel; left = left } in
    goes_away laws others s new l step refl refl refl j (laws.outstation.restarts s.outstation true l j.outstation) (h ∙ ap after (sym (append-nil s.left)))

-- ---- both ends are opened

opens : {Sink : Type 0} → MoveLaws → (others : List Row) (s new : LinkState Sink) (l : LawLink) → CarriesLaw l → Joined others s l
    → Steps (opened_of s.outstation s.now) (opening s) new → Follows others [] [] s.outstation.performed l new
opens {Sink = Sink} laws others s new l stands j h =
    let step : Step = opened_of s.outstation s.now in
    let beside : Beside others s.left (opening s) true (opened l) = record {
      master = refl;
      number = omega arith;
      going_down = [];
      down = carries_opened laws.line s.channel.down s.channel.master_port s.channel.outstation_port s.master.is_open j.going_down j.down;
      down_is = refl;
      octets = All-nil (All (λ octet. octet < 2 ^ 8));
      up = carries_opened laws.line s.channel.up s.channel.outstation_port s.channel.master_port s.outstation.core.is_open (map octets_of l.up) j.up;
      taken = j.taken;
      released = j.released;
      left = j.left;
    } in
    moves_before others [] [] s.outstation.performed l (opened l) new (one_move l (opened l) (Open refl)) refl refl refl
    (after_step laws.line others s.left [] (opening s) new true (opened l) step
    (sym (append-nil s.left) ∙ ap (λ (xs : List Row). s.left ++ xs) (sym (opened_leaves laws.points s.outstation s.now).none))
    (λ e. absurd (both_ways true e refl)) (λ e. absurd (both_ways true e refl))
    beside (laws.outstation.opens s.outstation s.now l j.outstation stands) h)

-- ---- each event

pub event_follows : {Sink : Type 0} → MoveLaws → (takes : Sink → List Row → List Row → List Row → Sink → Type 0) (panel : Panel)
    → ShowOctets panel → (others : List Row) (s new : LinkState Sink) (l : LawLink) (e : LinkEvent)
    → CarriesLaw l → Joined others s l → HappensOn takes panel s e new
    → Follows others (arriving (rows_of s.outstation.core.points (point_moves e))) [] s.outstation.performed l new
event_follows laws takes panel shown others s new l event.Open stands j h = opens laws others s new l stands j h
event_follows laws takes panel shown others s new l (event.HangUp end.Master) stands j h = master_goes laws others s new l j h
event_follows laws takes panel shown others s new l (event.HangUp end.Outstation) stands j h = hangs_up laws others s new l j h
event_follows laws takes panel shown others s new l (event.Deliver way.Down) stands j h =
    comes_down laws delivered_on (carries_delivered laws.line) panel shown others s new l stands j h
event_follows laws takes panel shown others s new l (event.Deliver way.Up) stands j h =
    comes_up laws delivered_on (carries_delivered laws.line) takes others s new l stands j h
event_follows laws takes panel shown others s new l (event.Repeat way.Down) stands j h =
    comes_down laws repeated_on (carries_repeated laws.line) panel shown others s new l stands j h
event_follows laws takes panel shown others s new l (event.Repeat way.Up) stands j h =
    comes_up laws repeated_on (carries_repeated laws.line) takes others s new l stands j h
event_follows {Sink = Sink} laws takes panel shown others s new l (event.Lose way.Down) stands j h =
    stays_as others l new _ h
    (with_lines others s l (lost_on s.channel.down) s.channel.up s.channel.outstation_port s.channel.master_port s.now j
    (carries_lost laws.line s.channel.down s.channel.master_port s.channel.outstation_port s.master.is_open j.going_down j.down) j.up)
event_follows laws takes panel shown others s new l (event.Lose way.Up) stands j h =
    stays_as others l new _ h
    (with_lines others s l s.channel.down (lost_on s.channel.up) s.channel.outstation_port s.channel.master_port s.now j j.down
    (carries_lost laws.line s.channel.up s.channel.outstation_port s.channel.master_port s.outstation.core.is_open (map octets_of l.up) j.up))
event_follows laws takes panel shown others s new l (event.Damage way.Down octets) stands j h =
    stays_as others l new _ (h.after ∙ ap (λ (c : ChannelState). record s { channel = c }) h.damages.1)
    (with_lines others s l new.channel.down s.channel.up s.channel.outstation_port s.channel.master_port s.now j
    (carries_damaged laws.line s.channel.down new.channel.down s.channel.master_port s.channel.outstation_port s.master.is_open j.going_down octets.items
    h.damages.0 j.down) j.up)
event_follows laws takes panel shown others s new l (event.Damage way.Up octets) stands j h =
    stays_as others l new _ (h.after ∙ ap (λ (c : ChannelState). record s { channel = c }) h.damages.1)
    (with_lines others s l s.channel.down new.channel.up s.channel.outstation_port s.channel.master_port s.now j j.down
    (carries_damaged laws.line s.channel.up new.channel.up s.channel.outstation_port s.channel.master_port s.outstation.core.is_open (map octets_of l.up)
    octets.items h.damages.0 j.up))
event_follows laws takes panel shown others s new l (event.Change kind index reading) stands j h =
    subst (λ rows. Follows others (arriving rows) [] s.outstation.performed l new) (sym (append-nil _))
    (change_follows laws others s new l kind index reading stands j h)
event_follows laws takes panel shown others s new l (event.Ask task) stands j h = asks_follow laws others s new l task j h
event_follows laws takes panel shown others s new l (event.Pass ms) stands j h =
    stays_as others l new _ h (with_lines others s l s.channel.down s.channel.up s.channel.outstation_port s.channel.master_port _ j j.down j.up)
event_follows laws takes panel shown others s new l (event.Tick end.Master) stands j h = tick_follows laws others s new l j h
event_follows laws takes panel shown others s new l (event.Tick end.Outstation) stands j h =
    plain_step laws.line others s new l (tick_of s.outstation s.now) (ticked_leaves laws.points s.outstation s.now).none
    (laws.outstation.silent_ticked s.outstation s.now) j
    (laws.outstation.ticks s.outstation s.now l j.outstation stands) h
event_follows laws takes panel shown others s new l (event.Restart end.Master) stands j h = master_goes laws others s new l j h
event_follows laws takes panel shown others s new l (event.Restart end.Outstation) stands j h = restarts laws others s new l j h
