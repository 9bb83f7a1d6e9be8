-- What each event touches of a system besides its lines.
use Rattle.std.proofs.Common.{◌≡◌, ℕ, Bool, true, false, ◌&&◌, ◌==◌, if◌then◌else◌, List, [], ◌∷◌, map, Option, Some, None, is_some, option_map, Result, Ok, Err, refl, sym, ap, ◌∙◌, subst}
use Rattle.std.specs.Prelude.{slice_get, slice_set}
use Rattle.std.proofs.Math.Seq.{map-set_same}
use Rattle.std.proofs.lemmas.List.{map-set}
use Rattle.std.proofs.lemmas.Option.{get_or_from_slice_get, same_Some, slice_get-map}
use Rattle.dnp_concentrator.specs.Mapped.{command_above}
use Rattle.dnp_concentrator.specs.Relaying as relaying
use Rattle.dnp_line.specs.Lines.{LineState, delivered_on, repeated_on}
use Rattle.dnp_master.specs.Calls.{Taking, receive_of}
use Rattle.dnp_master.specs.declared.fault.MasterFault.{MasterFault}
use Rattle.dnp_master.specs.declared.task.Task.{Task}
use Rattle.dnp_objects.specs.declared.command.Command.{Command}
use Rattle.dnp_objects.specs.declared.lane.LaneRow.{LaneRow}
use Rattle.dnp_objects.specs.declared.row.Kind.{Kind}
use Rattle.dnp_objects.specs.declared.row.Row.{Row}
use Rattle.dnp_outstation.specs.Calls.{performed_in}
use Rattle.dnp_outstation.specs.State.{State}
use Rattle.dnp_pointdb.specs.Database.{answer_of}
use Rattle.dnp_pointdb.specs.Runs.{Move, Change as PointReads, Restart as PointsRestart}
use Rattle.dnp_pointdb.specs.declared.fault.ChangeFault.{ChangeFault}
use Rattle.dnp_pointdb.specs.declared.reading.Reading.{Reading}
use Rattle.dnp_world.specs.Centres.{centre_at, centre_of}
use Rattle.dnp_world.specs.Channels.{ChannelState}
use Rattle.dnp_world.specs.OneLinkEvents.{is_own}
use Rattle.dnp_world.specs.Systems.{ConcentratorState, SubstationState, System, has_link, has_substation, link_at, middle_panel, panel_of, station_of}
use Rattle.dnp_world.specs.SystemEvents as system
use Rattle.dnp_world.specs.SystemEvents.{Refuses, Steps, AsksOn, ChangesAt, ComesOn, ComesUp, HangsUpOn, IssuesBy, LinesChange, MasterReceives, MasterTakes, MasterTicks, MiddleAnswers, OpensOn, OutstationTicks, ReadsBy, RelaysOn, SubstationAnswers, SubstationRestarts, master_gone, relaying_at, step_on, taken_on, told, with_link, with_lost, with_middle, with_substation}
use Rattle.dnp_world.specs.Steady.{issued_by, moves_at}
use Rattle.dnp_world.specs.SystemRuns.{Happens, IfThere}
use Rattle.dnp_world.specs.declared.event.Event.{Event}
use Rattle.dnp_world.specs.declared.event.Event.TheVariants as event
use Rattle.dnp_world.specs.declared.event.Link.{Link}
use Rattle.dnp_world.specs.declared.event.Link.TheVariants.{Below, Above}
use Rattle.dnp_world.specs.declared.event.Place.TheVariants as place
use Rattle.dnp_world.specs.declared.link_event.End.{End}
use Rattle.dnp_world.specs.declared.link_event.End.TheVariants as end
use Rattle.dnp_world.specs.declared.link_event.Way.{Way}
use Rattle.dnp_world.specs.declared.link_event.Way.TheVariants as way
use Rattle.dnp_world.proofs.Touches.{Call, Waits, Opens, Hears, Reads, Ticks, HangsUp, Restarts, Nobody, Outstation, LinkOpens, LinkHangsUp, LinkAsks, LinkHears, LinkTicks, Used, Nothing, LinkUsed, CentreUsed, LinkRelays, CentreRelays, Performs, Issues, AllHangUp, Ends, Touches, Touched, after_call, after_used, ends_of, Refused, at_only, issued_in, moves_in, moves_of}

-- ---- what an event touches, what it is to the points of each outstation, and which commands it issues

-- the concentrator's book gets no command by it, and the centre's is as it was
abbrev pub leaves_books : {e : Ends} → Used e → Bool
leaves_books (CentreRelays now) = false
leaves_books (Performs spans commands) = false
leaves_books (Issues substation command above is fits) = false
leaves_books used = true

-- of an event at that centre, or at none
pub record Does (centre : Option ℕ) (moves : ℕ → List Move) (commands : List (ℕ × Command)) (old new : Ends) : Type 0 where
  pub touched : Touches old new
  pub moved : (i : ℕ) → moves_in touched.called i ≡ moves i
  pub issued : issued_in touched.used ≡ commands
  pub books : centre ≡ None → leaves_books touched.used ≡ true

abbrev Moved : Option ℕ → (ℕ → List Move) → System → System → Type 0
Moved centre moves old new = Does centre moves [] (ends_of old) (ends_of new)

abbrev none : ℕ → List Move
none i = []

-- no outstation is called
moved_none : {o : Option ℕ} (old new : System) (used : Used (ends_of old)) → (o ≡ None → leaves_books used ≡ true)
    → ends_of new ≡ record (after_used (ends_of old) used) { outstations = map station_of old.substations }
    → Does o none (issued_in used) (ends_of old) (ends_of new)
moved_none old new used books after =
    record { touched = record { called = Nobody; used = used; after = after }; moved = λ i. refl; issued = refl; books = books }

-- the lines, the moment, the history, the queue, the journal and readings above are others, and nothing else
rests : {o : Option ℕ} (old new : System) → ends_of new ≡ ends_of old → Moved o none old new
rests old new same = moved_none old new Nothing (λ _. refl) same

same_system : {o : Option ℕ} (old new : System) → new ≡ old → Moved o none old new
same_system old new same = rests old new (ap ends_of same)

-- ---- parts of events

lines_same : (on : Link) (Change : ChannelState → ChannelState → Type 0) (old new : System) → LinesChange on Change old new → ends_of new ≡ ends_of old
lines_same (Below substation) Change old new c =
    ap ends_of c.after
    ∙ ap (λ (xs : List State). record (ends_of old) { outstations = xs })
    (map-set_same station_of old.substations substation c.is c.was
    (ap station_of c.changed.1 ∙ ap station_of (sym (get_or_from_slice_get old.substations substation c.was c.was c.there))))
lines_same (Above centre) Change old new c = ap ends_of c.1

there_of : (xs : List SubstationState) (substation : ℕ) (was : SubstationState) → slice_get xs substation ≡ Some was
    → slice_get (map station_of xs) substation ≡ Some (station_of was)
there_of xs substation was there = slice_get-map station_of xs substation ∙ ap (option_map station_of) there

-- one outstation is called, over a system in which a master was used
record IsCalled (moves : List Move) (was is : SubstationState) : Type 0 where
  call : Call
  after : station_of is ≡ after_call (station_of was) call
  moved : moves_of call ≡ moves

changes_points : {o : Option ℕ} (moves : List Move)
    → (substation : ℕ) (Change : SubstationState → SubstationState → Type 0) (rest : SubstationState → SubstationState → System → System)
    (old new : System) (middle : ConcentratorState) (used : Used (ends_of old))
    → issued_in used ≡ [] → leaves_books used ≡ true
    → ends_of (with_middle old middle) ≡ record (after_used (ends_of old) used) { outstations = map station_of old.substations }
    → ((was is : SubstationState) (s : System) → ends_of (rest was is s) ≡ ends_of s)
    → ((was is : SubstationState) → slice_get old.substations substation ≡ Some was → Change was is → IsCalled moves was is)
    → ChangesAt substation Change rest (with_middle old middle) new → Moved o (at_only substation moves) old new
changes_points moves substation Change rest old new middle used nothing books uses stays calls c =
    let x : IsCalled moves c.was c.is = calls c.was c.is c.there c.changed in
    record {
      touched = record {
        called = Outstation substation (station_of c.was) x.call (there_of old.substations substation c.was c.there);
        used = used;
        after = ap ends_of c.after ∙ stays c.was c.is (with_substation (with_middle old middle) substation c.is)
            ∙ ap (λ (e : Ends). record e { outstations = map station_of (slice_set old.substations substation c.is) }) uses
            ∙ ap (λ (xs : List State). record (after_used (ends_of old) used) { outstations = xs })
            (map-set station_of old.substations substation c.is ∙ ap (slice_set (map station_of old.substations) substation) x.after);
      };
      moved = λ i. ap (λ (moves : List Move). at_only substation moves i) x.moved;
      issued = nothing;
      books = λ _. books;
    }

-- and its points stay as they are
calm : {o : Option ℕ} (substation : ℕ) (old new : System) → Moved o (at_only substation []) old new → Moved o none old new
calm substation old new m = record { touched = m.touched; moved = λ i. m.moved i ∙ still (substation == i); issued = m.issued; books = m.books }
  where
    still : (b : Bool) → (if b then (let moves : List Move = [] in moves) else []) ≡ []
    still true = refl
    still false = refl

changes : {o : Option ℕ} (substation : ℕ) (Change : SubstationState → SubstationState → Type 0) (rest : SubstationState → SubstationState → System → System)
    (old new : System) (middle : ConcentratorState) (used : Used (ends_of old))
    → issued_in used ≡ [] → leaves_books used ≡ true
    → ends_of (with_middle old middle) ≡ record (after_used (ends_of old) used) { outstations = map station_of old.substations }
    → ((was is : SubstationState) (s : System) → ends_of (rest was is s) ≡ ends_of s)
    → ((was is : SubstationState) → slice_get old.substations substation ≡ Some was → Change was is → IsCalled [] was is)
    → ChangesAt substation Change rest (with_middle old middle) new → Moved o none old new
changes substation Change rest old new middle used nothing books uses stays calls c =
    calm substation old new (changes_points [] substation Change rest old new middle used nothing books uses stays calls c)

-- and no master is used
calls_at : {o : Option ℕ} (substation : ℕ) (Change : SubstationState → SubstationState → Type 0) (rest : SubstationState → SubstationState → System → System)
    (old new : System) → ((was is : SubstationState) (s : System) → ends_of (rest was is s) ≡ ends_of s)
    → ((was is : SubstationState) → slice_get old.substations substation ≡ Some was → Change was is → IsCalled [] was is)
    → ChangesAt substation Change rest old new → Moved o none old new
calls_at substation Change rest old new stays calls c = changes substation Change rest old new old.concentrator Nothing refl refl refl stays calls c

-- ---- events

opens : (on : Link) (old new : System) → OpensOn on old new → Moved (centre_of on) none old new
opens (Below substation) old new c =
    changes substation _ _ old new _ (LinkUsed substation LinkOpens) refl refl refl (λ was is s. refl)
    (λ was is there steps. record { call = Opens old.now; after = ap station_of steps.after; moved = refl }) c
opens (Above centre) old new m = moved_none old new (CentreUsed LinkOpens) (λ _. refl) (ap ends_of m.after)

hangs_up : (on : Link) (e : End) (old new : System) → HangsUpOn on e old new → Moved (centre_of on) none old new
hangs_up (Below substation) end.Master old new c =
    changes substation _ _ old new _ (LinkUsed substation LinkHangsUp) refl refl refl (λ was is s. refl)
    (λ was is there after. record { call = Waits; after = ap station_of after; moved = refl }) c
hangs_up (Below substation) end.Outstation old new c =
    calls_at substation _ _ old new (λ was is s. refl) (λ was is there after. record { call = HangsUp; after = ap station_of after; moved = refl }) c
hangs_up (Above centre) end.Master old new after = moved_none old new (CentreUsed LinkHangsUp) (λ _. refl) (ap ends_of after)
hangs_up (Above centre) end.Outstation old new after = rests old new (ap ends_of after)

answers : (given : List (List ℕ)) (now : ℕ) (released : List Row) (was is : SubstationState) (lines : ChannelState)
    → SubstationAnswers given now released (record was { channel = lines }) is → IsCalled [] was is
answers [] now released was is lines h = record { call = Waits; after = ap station_of h.1; moved = refl }
answers (fragment ∷ others) now released was is lines h = record { call = Hears (panel_of was) now fragment; after = ap station_of h.1.after; moved = refl }

middle_answers : (centre : ℕ) (given : List (List ℕ)) (old new : System) → MiddleAnswers given old new → Moved (Some centre) none old new
middle_answers centre [] old new same = same_system old new same
middle_answers centre (fragment ∷ others) old new m =
    let c = old.concentrator in
    moved_none old new (Performs c.indices (performed_in c.core (middle_panel c old.now) old.now fragment))
    (λ at. absurd (cc)) (ap ends_of m.after)

receives : (on : Link) (now : ℕ) (fragment : List ℕ) (r : Result Taking MasterFault) (old new : System)
    → receive_of (relaying_at old on).master now fragment ≡ r → MasterReceives on r old new → Moved (centre_of on) none old new
receives (Below substation) now fragment (Ok t) old new is h = moved_none old new (LinkUsed substation (LinkHears now fragment t is)) (λ _. refl)
    (lines_same (Below substation) _ (taken_on old (Below substation) t) new h.1)
receives (Above centre) now fragment (Ok t) old new is h = moved_none old new (CentreUsed (LinkHears now fragment t is)) (λ _. refl)
    (ap ends_of h.1.1)
receives on now fragment (Err fault) old new is same = same_system old new same

takes : (on : Link) (given : List (List ℕ)) (old new : System) → MasterTakes on given old new → Moved (centre_of on) none old new
takes on [] old new same = same_system old new same
takes on (fragment ∷ others) old new h = receives on old.now fragment _ old new refl h

comes_up : (left : LineState → LineState) (on : Link) (old new : System) → ComesUp left on old new → Moved (centre_of on) none old new
comes_up left on old new c =
    subst (λ (e : Ends). Does (centre_of on) none [] e (ends_of new)) (lines_same on _ old c.between c.heard) (takes on c.given c.between new c.came)

comes : (left : LineState → LineState) (on : Link) (w : Way) (old new : System) → ComesOn left on w old new → Moved (centre_of on) none old new
comes left (Below substation) way.Down old new c =
    calls_at substation _ _ old new (λ was is s. refl)
    (λ was is there h. answers h.given old.now c.released was is _ h.came) c.came
comes left (Above centre) way.Down old new c = middle_answers centre c.given (record old { above = _ }) new c.came
comes left (Below substation) way.Up old new c = comes_up left (Below substation) old new c
comes left (Above centre) way.Up old new c = comes_up left (Above centre) old new c

reads_by : (substation : ℕ) (kind : Kind) (index : ℕ) (reading : Reading) (was : SubstationState) (r : Result (Option LaneRow) ChangeFault)
    (old new : System) → slice_get old.substations substation ≡ Some was → answer_of was.core.points kind index reading ≡ r
    → ReadsBy r substation kind index reading was old new → Moved None (at_only substation (PointReads kind index reading ∷ [])) old new
reads_by substation kind index reading was (Ok made) old new there is h =
    changes_points (PointReads kind index reading ∷ []) substation _ _ old new old.concentrator Nothing refl refl refl (λ x is s. refl)
    (λ x is at steps. record {
      call = Reads old.now kind index reading made;
      after = ap station_of steps.after
          ∙ ap (λ (y : SubstationState). after_call (station_of y) (Reads old.now kind index reading made)) (same_Some was x (sym there ∙ at));
      moved = refl;
    }) h.1
reads_by substation kind index reading was (Err fault) old new there is same = record {
  touched = record {
    called = Refused substation (station_of was) kind index reading fault (there_of old.substations substation was there) is;
    used = Nothing;
    after = ap ends_of same;
  };
  moved = λ i. refl;
  issued = refl;
  books = λ _. refl;
}

moved_by_reading : (substation : ℕ) (kind : Kind) (index : ℕ) (reading : Reading) (old new : System) → system.Reads substation kind index reading old new
    → Moved None (at_only substation (PointReads kind index reading ∷ [])) old new
moved_by_reading substation kind index reading old new c =
    reads_by substation kind index reading c.was (answer_of c.was.core.points kind index reading) old new c.there refl c.reads

asks : (own : Bool) (on : Link) (task : Task) (old new : System) → AsksOn own on task old new → Moved (centre_of on) none old new
asks true (Below substation) task old new c = moved_none old new (LinkUsed substation (LinkAsks old.now task)) (λ _. refl)
    (lines_same (Below substation) _ (with_link old substation _) new c)
asks true (Above centre) task old new c = moved_none old new (CentreUsed (LinkAsks old.now task)) (λ _. refl)
    (ap ends_of c.1)
asks false on task old new same = same_system old new same

issues : (centre : ℕ) (o : Option Command) (substation : ℕ) (command : Command) (old new : System) → command_above old.centre.indices substation command ≡ o
    → IssuesBy o substation command old new
    → Does (Some centre) none (if is_some o then (substation, command) ∷ [] else []) (ends_of old) (ends_of new)
issues centre None substation command old new is same = same_system old new same
issues centre (Some above) substation command old new is h =
    moved_none old new (Issues substation command above is h.1) (λ at. absurd (cc)) (ap ends_of h.2)

relays : (on : Link) (old new : System) → RelaysOn on old new → Moved (centre_of on) none old new
relays (Below substation) old new (Steps pending sends) = moved_none old new (LinkRelays substation old.now) (λ _. refl)
    (lines_same (Below substation) _ (with_link (told old (Below substation) (step_on old (Below substation))) substation _) new sends)
relays (Above centre) old new (Steps pending sends) = moved_none old new (CentreRelays old.now) (λ at. absurd (cc))
    (ap ends_of sends.1)
relays on old new (Refuses refused same) = same_system old new same

master_ticks : (on : Link) (old new : System) → MasterTicks on old new → Moved (centre_of on) none old new
master_ticks (Below substation) old new after = by _ after
  where
    ticked : System
    ticked = with_link old substation (relaying.ticked (link_at old.concentrator substation) old.now)

    by : (b : Bool) → new ≡ (if b then with_lost ticked substation else ticked) → Moved None none old new
    by true is = moved_none old new (LinkUsed substation (LinkTicks old.now)) (λ _. refl) (ap ends_of is)
    by false is = moved_none old new (LinkUsed substation (LinkTicks old.now)) (λ _. refl) (ap ends_of is)
master_ticks (Above centre) old new after = moved_none old new (CentreUsed (LinkTicks old.now)) (λ _. refl) (ap ends_of after)

ticks : (on : Link) (old new : System) → OutstationTicks on old new → Moved (centre_of on) none old new
ticks (Below substation) old new c =
    calls_at substation _ _ old new (λ was is s. refl)
    (λ was is there steps. record { call = Ticks old.now; after = ap station_of steps.after; moved = refl }) c
ticks (Above centre) old new m = rests old new (ap ends_of m.after)

gone_same : (xs : List SubstationState) → map station_of (map master_gone xs) ≡ map station_of xs
gone_same [] = refl
gone_same (x ∷ xs) = ap (λ (ys : List State). station_of x ∷ ys) (gone_same xs)

if_there : {o : Option ℕ} (b : Bool) (Change : System → System → Type 0) (old new : System) → (Change old new → Moved o none old new)
    → IfThere b Change old new → Moved o none old new
if_there true Change old new touched h = touched h
if_there false Change old new touched same = same_system old new same

if_moved : {o : Option ℕ} (b : Bool) (Change : System → System → Type 0) (substation : ℕ) (moves : List Move) (old new : System)
    → (Change old new → Moved o (at_only substation moves) old new) → IfThere b Change old new
    → Moved o (λ i. if b && substation == i then moves else []) old new
if_moved true Change substation moves old new moved h = moved h
if_moved false Change substation moves old new moved same = same_system old new same

pub does : (old new : System) (e : Event) → Happens old e new → Does (centre_at e) (moves_at old e) (issued_by old e) (ends_of old) (ends_of new)
does old new (event.Open on) h = if_there (has_link old on) (OpensOn on) old new (opens on old new) h
does old new (event.HangUp on e) h = if_there (has_link old on) (HangsUpOn on e) old new (hangs_up on e old new) h
does old new (event.Deliver on w) h = if_there (has_link old on) (ComesOn delivered_on on w) old new (comes delivered_on on w old new) h
does old new (event.Repeat on w) h = if_there (has_link old on) (ComesOn repeated_on on w) old new (comes repeated_on on w old new) h
does old new (event.Lose on w) h = if_there (has_link old on) _ old new (λ c. rests old new (lines_same on _ old new c)) h
does old new (event.Damage on w octets) h = if_there (has_link old on) _ old new (λ c. rests old new (lines_same on _ old new c)) h
does old new (event.Change substation kind index reading) h =
    if_moved (has_substation old substation) (system.Reads substation kind index reading) substation (PointReads kind index reading ∷ []) old new
    (moved_by_reading substation kind index reading old new) h
does old new (event.Ask on task) h = if_there (has_link old on) (AsksOn (is_own task) on task) old new (asks (is_own task) on task old new) h
does old new (event.Issue centre substation command) h = issues centre (command_above old.centre.indices substation command) substation command old new refl h
does old new (event.Relay on) h = if_there (has_link old on) (RelaysOn on) old new (relays on old new) h
does old new (event.Pass ms) h = rests old new (ap ends_of h)
does old new (event.Tick on end.Master) h = if_there (has_link old on) (MasterTicks on) old new (master_ticks on old new) h
does old new (event.Tick on end.Outstation) h = if_there (has_link old on) (OutstationTicks on) old new (ticks on old new) h
does old new (event.Restart (place.Centre centre)) h = hangs_up (Above centre) end.Master old new h
does old new (event.Restart place.Concentrator) h = moved_none old new AllHangUp (λ _. refl)
    (ap ends_of h ∙ ap (λ (xs : List State). record (after_used (ends_of old) AllHangUp) { outstations = xs }) (gone_same old.substations))
does old new (event.Restart (place.Substation substation)) h =
    if_moved (has_substation old substation) (SubstationRestarts substation) substation (PointsRestart ∷ []) old new
    (changes_points (PointsRestart ∷ []) substation _ _ old new old.concentrator Nothing refl refl refl (λ was is s. refl)
    (λ was is there after. record { call = Restarts; after = ap station_of after; moved = refl })) h

pub touches : (old new : System) (e : Event) → Happens old e new → Touched old new
touches old new e h = (does old new e h).touched

pub touched_by_reading : (substation : ℕ) (kind : Kind) (index : ℕ) (reading : Reading) (old new : System) → system.Reads substation kind index reading old new
    → Touched old new
touched_by_reading substation kind index reading old new c = (moved_by_reading substation kind index reading old new c).touched
