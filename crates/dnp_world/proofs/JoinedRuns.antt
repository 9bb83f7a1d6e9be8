-- Lists of events over a link of real stations, appends by others, and a new link.
use Rattle.std.proofs.Common.{◌≡◌, ℕ, ◌<◌, ◌^◌, Bool, true, false, List, [], ◌∷◌, ◌++◌, map, take, refl, sym, ap, ◌∙◌, subst, append_assoc, append-nil, arith}
use Rattle.std.specs.List.{All}
use Rattle.std.specs.List.Sorted.{IsPermutation}
use Rattle.std.proofs.lemmas.List.{map-append}
use Rattle.std.proofs.lemmas.List.Elements.{All-nil}
use Rattle.std.proofs.lemmas.List.Sorted.{IsPermutation-refl, IsPermutation-trans, IsPermutation-append_left}
use Rattle.dnp_objects.specs.declared.lane.LaneRow.{LaneRow}
use Rattle.dnp_objects.specs.declared.command.Command.{Command}
use Rattle.dnp_objects.specs.declared.row.Row.{Row}
use Rattle.dnp_controls.specs.Latches.{no_panel}
use Rattle.dnp_controls.specs.Panel.{Panel}
use Rattle.dnp_eventbuf.specs.Buffered.{Buffered, buffered_row}
use Rattle.dnp_eventbuf.specs.EventBuffer.{EventBuffer, arriving, with_rows, dropped_by}
use Rattle.dnp_line.specs.Flows.{Flows}
use Rattle.dnp_line.specs.Ways.{new_way}
use Rattle.dnp_pointdb.specs.Database.{Database, new_database}
use Rattle.dnp_pointdb.specs.Plan.{Plan}
use Rattle.dnp_pointdb.specs.declared.times.Times.{Times}
use Rattle.dnp_pointdb.specs.Runs.{Move, rows_of}
use Rattle.dnp_outstation.specs.State as outstation
use Rattle.dnp_outstation.specs.Station.{new_core}
use Rattle.dnp_outstation.specs.State.{Step, nothing}
use Rattle.dnp_world.specs.declared.link_event.Way.TheVariants as way
use Rattle.dnp_world.specs.declared.link_event.LinkEvent.{LinkEvent}
use Rattle.dnp_world.specs.declared.link_event.LinkEvent.TheVariants as event
use Rattle.dnp_world.specs.Joined.{Carries, Joined, Follows, point_moves, rows_made_by, new_link_of, with_others_rows}
use Rattle.dnp_world.specs.LawLink.{LawLink}
use Rattle.dnp_world.specs.Lanes.{fresh_link}
use Rattle.dnp_world.specs.OneLinkEvents.{LinkState, HappensOn, RunsTo, CountsFor, StopsAt, StopsAfter}
use Rattle.dnp_world.specs.OutstationSeen.{octets_of, ShowOctets, Shows, Simulates}
use Rattle.dnp_world.specs.Standing.{CarriesLaw}
use Rattle.dnp_world.specs.steps.MoveLaws.{MoveLaws}
use Rattle.dnp_world.proofs.JoinedEvents.{event_follows}
use Rattle.dnp_world.proofs.JoinedHappenings.{made_behind, event_points}
use Rattle.dnp_world.proofs.JoinedSteps.{left_behind, stays_as, with_lists}
use Rattle.dnp_world.proofs.Keeping.{moves_stand}
use Rattle.dnp_world.proofs.OutstationSteps.{moves_after}

-- ---- one after the other

follows_both : {Sink : Type 0} (others first second : List Row) (before : List Command) (l : LawLink) (next new : LinkState Sink)
    (f : Follows others first [] before l next)
    → Follows others second [] next.outstation.performed f.link new → Follows others (first ++ second) [] before l new
follows_both others first second before l next new f g = record {
  link = g.link;
  moves = moves_after l f.link g.link f.moves g.moves;
  joined = g.joined;
  stood = g.stood ∙ ap (λ (xs : List Row). xs ++ second) f.stood ∙ append_assoc (map buffered_row l.stood) first second;
  asked_is = g.asked_is ∙ append-nil f.link.asked ∙ f.asked_is;
  commands = f.commands ++ g.commands;
  performed = g.performed ∙ ap (λ (xs : List Command). xs ++ g.commands) f.performed ∙ append_assoc before f.commands g.commands;
  performed_is = g.performed_is ∙ ap (λ (xs : List Command). xs ++ g.commands) f.performed_is ∙ append_assoc l.performed f.commands g.commands;
}

-- no outputs show no octets
no_octets : ShowOctets no_panel
no_octets = record { outputs = omega arith; status = λ index low. omega arith }

pub run_follows : {Sink : Type 0} → MoveLaws → (takes : Sink → List Row → List Row → List Row → Sink → Type 0) (others : List Row)
    → (s new : LinkState Sink) (l : LawLink) (events : List LinkEvent)
    → CarriesLaw l → Joined others s l → RunsTo takes s events new
    → Follows others (rows_made_by s.outstation.core.points events) [] s.outstation.performed l new
run_follows laws takes others s new l [] stands j h = stays_as others l new s h j
run_follows laws takes others s new l (e ∷ events) stands j (next, first, later) =
    let f : Follows others (arriving (rows_of s.outstation.core.points (point_moves e))) [] s.outstation.performed l next =
    event_follows laws takes no_panel no_octets others s next l e stands j first in
    let g : Follows others (rows_made_by next.outstation.core.points events) [] next.outstation.performed f.link new =
    run_follows laws takes others next new f.link events (moves_stand l f.link f.moves stands) f.joined later in
    let rows : arriving (rows_of s.outstation.core.points (point_moves e)) ++ rows_made_by next.outstation.core.points events
    ≡ rows_made_by s.outstation.core.points (e ∷ events) =
    ap (λ (d : Database). arriving (rows_of s.outstation.core.points (point_moves e)) ++ rows_made_by d events)
    (event_points laws.points takes no_panel s next e first)
    ∙ made_behind s.outstation.core.points e events in
    subst (λ (rows : List Row). Follows others rows [] s.outstation.performed l new) rows
    (follows_both others (arriving (rows_of s.outstation.core.points (point_moves e))) (rows_made_by next.outstation.core.points events)
    s.outstation.performed l next new f g)

-- one event, whatever the outputs
pub one_follows : {Sink : Type 0} → MoveLaws → (takes : Sink → List Row → List Row → List Row → Sink → Type 0) (panel : Panel) → ShowOctets panel
    → (others : List Row) (s new : LinkState Sink) (l : LawLink) (e : LinkEvent)
    → CarriesLaw l → Joined others s l → HappensOn takes panel s e new
    → Follows others (rows_made_by s.outstation.core.points (e ∷ [])) [] s.outstation.performed l new
one_follows laws takes panel shown others s new l e stands j h =
    subst (λ (moves : List Move). Follows others (arriving (rows_of s.outstation.core.points moves)) [] s.outstation.performed l new)
    (sym (append-nil (point_moves e)))
    (event_follows laws takes panel shown others s new l e stands j h)

-- ---- a list that stops

counts_follows : {Sink : Type 0} → MoveLaws → (takes : Sink → List Row → List Row → List Row → Sink → Type 0) (others : List Row)
    → (s new : LinkState Sink) (l : LawLink) (e : LinkEvent)
    → CarriesLaw l → Joined others s l → CountsFor takes s e new → Follows others [] [] s.outstation.performed l new
counts_follows laws takes others s new l (event.Deliver way.Down) stands j h =
    event_follows laws takes no_panel no_octets others s new l (event.Lose way.Down) stands j h
counts_follows laws takes others s new l (event.Deliver way.Up) stands j h =
    event_follows laws takes no_panel no_octets others s new l (event.Lose way.Up) stands j h
counts_follows laws takes others s new l e stands j h = stays_as others l new s h j

pub stop_follows : {Sink : Type 0} → MoveLaws → (takes : Sink → List Row → List Row → List Row → Sink → Type 0) (keeps : Sink → Sink → Type 0)
    → (others : List Row) (s new : LinkState Sink) (l : LawLink)
    (e : LinkEvent) → CarriesLaw l → Joined others s l → StopsAt takes keeps s e new
    → Follows others [] [] s.outstation.performed l new
stop_follows laws takes keeps others s new l e stands j h =
    counts_follows laws takes others (record s { sink = h.sink }) new l e stands
    (with_lists others others s l h.sink s.now s.taken s.released s.left j j.taken j.released j.left) h.counts

pub stopped_follows : {Sink : Type 0} → MoveLaws → (takes : Sink → List Row → List Row → List Row → Sink → Type 0)
    → (keeps : Sink → Sink → Type 0) (others : List Row) (s new : LinkState Sink) (l : LawLink)
    (events : List LinkEvent) (done : ℕ) → CarriesLaw l → Joined others s l → StopsAfter takes keeps s events done new
    → Follows others (rows_made_by s.outstation.core.points (take done events)) [] s.outstation.performed l new
stopped_follows laws takes keeps others s new l events done stands j h =
    let rows : List Row = rows_made_by s.outstation.core.points (take done events) in
    let f : Follows others rows [] s.outstation.performed l h.before = run_follows laws takes others s h.before l (take done events) stands j h.ran in
    let g : Follows others [] [] h.before.outstation.performed f.link new =
    stop_follows laws takes keeps others h.before new f.link h.event (moves_stand l f.link f.moves stands) f.joined h.stops in
    subst (λ (rows : List Row). Follows others rows [] s.outstation.performed l new) (append-nil rows)
    (follows_both others rows [] s.outstation.performed l h.before new f g)

-- ---- rows that others append

abbrev pub append_of : outstation.State → List LaneRow → Step
append_of s rows = record { state = record s { lanes = with_rows s.lanes rows }; does = record nothing { overwritten = dropped_by s.lanes rows } }

pub append_follows : {Sink : Type 0} (others : List Row) (s : LinkState Sink) (l : LawLink) (rows : List LaneRow) → Joined others s l
    → Simulates s.outstation (arriving rows) (append_of s.outstation rows) l
    → Follows (others ++ dropped_by s.outstation.lanes rows) (arriving rows) [] s.outstation.performed l (with_others_rows rows s)
append_follows others s l rows j sim =
    let dropped : List Row = dropped_by s.outstation.lanes rows in
    let up_is : map octets_of sim.link.up ≡ map octets_of l.up =
    ap (map octets_of) sim.up ∙ map-append octets_of l.up sim.sent ∙ ap (λ (fs : List (List ℕ)). map octets_of l.up ++ fs) sim.octets
    ∙ append-nil (map octets_of l.up) in
    record {
      link = sim.link;
      moves = sim.moves;
      joined = record {
        outstation = sim.shows;
        master = sim.master.master ∙ j.master;
        number = j.number;
        going_down = j.going_down;
        down = j.down;
        down_is = sim.master.down ∙ j.down_is;
        octets = j.octets;
        up = subst (λ (fs : List (List ℕ)). Carries s.channel.up s.channel.outstation_port s.channel.master_port s.outstation.core.is_open fs) (sym up_is) j.up;
        taken = subst (λ (xs : List Buffered). IsPermutation s.taken (map buffered_row xs)) (sym sim.master.took) j.taken;
        released = sim.released ∙ append-nil (map buffered_row l.released) ∙ j.released;
        left = subst (λ (xs : List Row). IsPermutation xs (s.left ++ (others ++ dropped))) (sym sim.left)
            (subst (λ (xs : List Row). IsPermutation (map buffered_row l.left ++ dropped) xs) (append_assoc s.left others dropped)
            (IsPermutation-append_left dropped (map buffered_row l.left) (s.left ++ others) j.left));
      };
      stood = sim.stood;
      asked_is = sim.master.asked ∙ sym (append-nil l.asked);
      commands = sim.commands;
      performed = sim.performed;
      performed_is = sim.performed_seen;
    }

-- what left for others may be listed with the rest
pub listed : {Sink : Type 0} (others dropped : List Row) (s : LinkState Sink) (l : LawLink) → Joined (others ++ dropped) s l
    → Joined others (record s { left = s.left ++ dropped }) l
listed others dropped s l j =
    with_lists (others ++ dropped) others s l s.sink s.now s.taken s.released (s.left ++ dropped) j j.taken j.released
    (IsPermutation-trans (map buffered_row l.left) (s.left ++ (others ++ dropped)) ((s.left ++ dropped) ++ others) j.left
    (subst (λ (xs : List Row). IsPermutation xs ((s.left ++ dropped) ++ others)) (append_assoc s.left others dropped)
    (left_behind (s.left ++ others) s.left others dropped (IsPermutation-refl (s.left ++ others)))))

-- ---- a new link

abbrev pub Opened : Type 0
Opened = (own peer : ℕ) (from_master : Bool) → Flows (new_way own peer from_master) []

pub new_joined : {Sink : Type 0} → Opened → (plan : Plan) (times : Times) (lanes : EventBuffer) (performed : List Command) (peer own : ℕ)
    → (sink : Sink)
    → (let o : outstation.State = record { core = new_core (new_database plan) times; lanes = lanes; performed = performed } in Shows o (fresh_link lanes))
    → Joined [] (new_link_of plan times lanes performed peer own sink) (fresh_link lanes)
new_joined opened plan times lanes performed peer own sink shows =
    let no_rows : List Row = [] in
    record {
      outstation = shows;
      master = refl;
      number = omega arith;
      going_down = [];
      down = record { mute = false; sent = []; given = []; flows = opened peer own true; silent = λ e. refl };
      down_is = refl;
      octets = All-nil (All (λ octet. octet < 2 ^ 8));
      up = record { mute = false; sent = []; given = []; flows = opened own peer false; silent = λ e. refl };
      taken = IsPermutation-refl no_rows;
      released = refl;
      left = IsPermutation-refl no_rows;
    }
