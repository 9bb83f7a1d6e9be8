-- What an event touches of a system besides its lines: at most one outstation below, and at most one master with the book of its
-- controls, each by a call of it.
use Rattle.std.proofs.Common.{◌≡◌, ℕ, zero, suc, ◌==◌, if◌then◌else◌, List, [], ◌∷◌, ◌++◌, map, Option, Some, None, IfSome, option_map, Ok, Err, sym, subst}
use Rattle.std.specs.Prelude.{slice_get, slice_set}
use Rattle.std.proofs.lemmas.Option.{slice_get-map}
use Rattle.dnp_concentrator.specs.Below.{link_in}
use Rattle.dnp_concentrator.specs.BookOutputs.{all_added}
use Rattle.dnp_concentrator.specs.Mapped.{command_above}
use Rattle.dnp_concentrator.specs.Relaying as relaying
use Rattle.dnp_concentrator.specs.Relaying.{Relaying}
use Rattle.dnp_concentrator.specs.declared.span.Spans.{Spans}
use Rattle.dnp_controls.specs.Book.{Ledger, added}
use Rattle.dnp_controls.specs.Panel.{Panel}
use Rattle.dnp_eventbuf.specs.EventBuffer.{without_all}
use Rattle.dnp_master.specs.Calls.{Taking, receive_of}
use Rattle.dnp_master.specs.declared.task.Task.{Task}
use Rattle.dnp_objects.specs.declared.command.Command.{Command}
use Rattle.dnp_objects.specs.declared.lane.LaneRow.{LaneRow}
use Rattle.dnp_objects.specs.declared.row.Kind.{Kind}
use Rattle.dnp_outstation.specs.Calls.{change_of, connection_after, opened_of, restarted_core, tick_of}
use Rattle.dnp_outstation.specs.Connection.{closed}
use Rattle.dnp_outstation.specs.State.{State}
use Rattle.dnp_pointdb.specs.Database.{answer_of}
use Rattle.dnp_pointdb.specs.Runs.{Move, Change, Restart}
use Rattle.dnp_pointdb.specs.declared.fault.ChangeFault.{ChangeFault}
use Rattle.dnp_pointdb.specs.declared.reading.Reading.{Reading}
use Rattle.dnp_world.specs.CommandWidths.{HasWidths}
use Rattle.dnp_world.specs.Systems.{SubstationState, System, station_of}

-- ---- a system without its lines

-- the outstations below, the masters with the books of their controls, what was issued, and the index maps
pub record Ends : Type 0 where
  pub outstations : List State
  pub links : List Relaying
  pub controls : Ledger
  pub centre : Relaying
  pub orders : Ledger
  pub issued : List (ℕ × Command)
  pub indices : List Spans
  pub centre_indices : List Spans

abbrev pub ends_of : System → Ends
ends_of s = record {
  outstations = map station_of s.substations;
  links = s.concentrator.links;
  controls = s.concentrator.controls;
  centre = s.centre.link;
  orders = s.centre.orders;
  issued = s.history.issued;
  indices = s.indices;
  centre_indices = s.centre.indices;
}

-- ---- calls of an outstation

-- the calls that an event makes of one: a unit that completes no fragment makes none
pub data Call : Type 0 where
  Waits : Call
  Opens : (now : ℕ) → Call
  Hears : (outputs : Panel) (now : ℕ) (fragment : List ℕ) → Call
  Reads : (now : ℕ) (kind : Kind) (index : ℕ) (reading : Reading) (made : Option LaneRow) → Call
  Ticks : (now : ℕ) → Call
  HangsUp : Call
  Restarts : Call

abbrev pub after_call : State → Call → State
after_call s Waits = s
after_call s (Opens now) = (opened_of s now).state
after_call s (Hears outputs now fragment) = (connection_after s outputs now fragment).state
after_call s (Reads now kind index reading made) = (change_of s now kind index reading made).state
after_call s (Ticks now) = (tick_of s now).state
after_call s HangsUp = record s { core = closed s.core }
after_call s Restarts = record s { core = restarted_core s.core; lanes = without_all s.lanes }

-- none of them is called, or the one at a substation that was so, or that one refused a reading
pub data Called (outstations : List State) : Type 0 where
  Nobody : Called outstations
  Outstation : (substation : ℕ) (was : State) (call : Call) → slice_get outstations substation ≡ Some was → Called outstations
  Refused : (substation : ℕ) (was : State) (kind : Kind) (index : ℕ) (reading : Reading) (fault : ChangeFault)
      → slice_get outstations substation ≡ Some was → answer_of was.core.points kind index reading ≡ Err fault → Called outstations

abbrev pub after_called : (outstations : List State) → Called outstations → List State
after_called outstations Nobody = outstations
after_called outstations (Outstation substation was call there) = slice_set outstations substation (after_call was call)
after_called outstations (Refused substation was kind index reading fault there refused) = outstations

-- what a call is to the points
abbrev pub moves_of : Call → List Move
moves_of (Reads now kind index reading made) = Change kind index reading ∷ []
moves_of Restarts = Restart ∷ []
moves_of call = []

abbrev pub at_only : ℕ → List Move → ℕ → List Move
at_only substation moves i = if substation == i then moves else []

abbrev pub moves_in : {outstations : List State} → Called outstations → ℕ → List Move
moves_in Nobody i = []
moves_in (Outstation substation was call there) i = at_only substation (moves_of call) i
moves_in (Refused substation was kind index reading fault there refused) i = at_only substation (Change kind index reading ∷ []) i

-- ---- calls of a master

-- those but for the steps of relaying
pub data Use (r : Relaying) : Type 0 where
  LinkOpens : Use r
  LinkHangsUp : Use r
  LinkAsks : (now : ℕ) (task : Task) → Use r
  LinkHears : (now : ℕ) (fragment : List ℕ) (t : Taking) → receive_of r.master now fragment ≡ Ok t → Use r
  LinkTicks : (now : ℕ) → Use r

abbrev pub after_use : (r : Relaying) → Use r → Relaying
after_use r LinkOpens = relaying.opened r
after_use r LinkHangsUp = relaying.hung_up r
after_use r (LinkAsks now task) = relaying.asking r now task
after_use r (LinkHears now fragment t is) = relaying.received r t
after_use r (LinkTicks now) = relaying.ticked r now

-- No master and no book is used, or a master is, a step of relaying is taken over a link, commands are performed at the concentrator, one
-- is issued at the centre, or the concentrator restarts.
pub data Used (e : Ends) : Type 0 where
  Nothing : Used e
  LinkUsed : (substation : ℕ) → Use (link_in e.links substation) → Used e
  CentreUsed : Use e.centre → Used e
  LinkRelays : (substation now : ℕ) → Used e
  CentreRelays : (now : ℕ) → Used e
  Performs : (spans : List Spans) (commands : List Command) → Used e
  Issues : (substation : ℕ) (command above : Command) → command_above e.centre_indices substation command ≡ Some above → HasWidths command → Used e
  AllHangUp : Used e

-- a step of relaying over a link to a substation, by its book
abbrev pub step_at : Ends → ℕ → relaying.Step
step_at e substation = relaying.step_of (link_in e.links substation) e.controls.entries substation

abbrev pub step_above : Ends → relaying.Step
step_above e = relaying.step_of e.centre e.orders.entries 0

abbrev pub after_used : (e : Ends) → Used e → Ends
after_used e Nothing = e
after_used e (LinkUsed substation call) = record e { links = slice_set e.links substation (after_use (link_in e.links substation) call) }
after_used e (CentreUsed call) = record e { centre = after_use e.centre call }
after_used e (LinkRelays substation now) = record e {
  links = slice_set e.links substation (relaying.relaying_after (link_in e.links substation) now (step_at e substation));
  controls = relaying.ledger_after e.controls (step_at e substation);
}
after_used e (CentreRelays now) = record e {
  centre = relaying.relaying_after e.centre now (step_above e);
  orders = relaying.ledger_after e.orders (step_above e);
}
after_used e (Performs spans commands) = record e { controls = all_added spans e.controls commands }
after_used e (Issues substation command above is fits) = record e {
  orders = added e.orders 0 above;
  issued = e.issued ++ (substation, command) ∷ [];
}
after_used e AllHangUp = record e { links = map relaying.hung_up e.links }

abbrev pub issued_in : {e : Ends} → Used e → List (ℕ × Command)
issued_in (Issues substation command above is fits) = (substation, command) ∷ []
issued_in used = []

-- ---- what an event touches

pub record Touches (old new : Ends) : Type 0 where
  pub called : Called old.outstations
  pub used : Used old
  pub after : new ≡ record (after_used old used) { outstations = after_called old.outstations called }

abbrev pub Touched : System → System → Type 0
Touched old new = Touches (ends_of old) (ends_of new)

-- ---- what each outstation has at its substation

abbrev pub EachHas : (ℕ → State → Type 0) → List State → Type 0
EachHas Has xs = (substation : ℕ) → IfSome (slice_get xs substation) (Has substation)

set_has : (Has : ℕ → State → Type 0) (xs : List State) (n : ℕ) (is : State) → EachHas Has xs → Has n is → EachHas Has (slice_set xs n is)
set_has Has [] n is all here i = all i
set_has Has (x ∷ xs) zero is all here zero = here
set_has Has (x ∷ xs) zero is all here (suc i) = all (suc i)
set_has Has (x ∷ xs) (suc n) is all here zero = all zero
set_has Has (x ∷ xs) (suc n) is all here (suc i) = set_has (λ k. Has (suc k)) xs n is (λ k. all (suc k)) here i

of_mapped : (Has : State → Type 0) (o : Option SubstationState) → IfSome (option_map station_of o) Has → IfSome o (λ s. Has (station_of s))
of_mapped Has None h = h
of_mapped Has (Some s) h = h

mapped : (Has : State → Type 0) (o : Option SubstationState) → IfSome o (λ s. Has (station_of s)) → IfSome (option_map station_of o) Has
mapped Has None h = h
mapped Has (Some s) h = h

-- what each call keeps, each substation has after the event
pub each_keeps : (Has : ℕ → State → Type 0) (old new : System)
    → ((substation : ℕ) (s : State) (call : Call) → Has substation s → Has substation (after_call s call))
    → Touched old new → ((substation : ℕ) → IfSome (slice_get old.substations substation) (λ s. Has substation (station_of s)))
    → (substation : ℕ) → IfSome (slice_get new.substations substation) (λ s. Has substation (station_of s))
each_keeps Has old new keeps t all substation =
    of_mapped (Has substation) (slice_get new.substations substation)
    (subst (λ (o : Option State). IfSome o (Has substation)) (slice_get-map station_of new.substations substation)
    (subst (λ (e : Ends). EachHas Has e.outstations) (sym t.after) (by t.called) substation))
  where
    before : EachHas Has (map station_of old.substations)
    before i =
        subst (λ (o : Option State). IfSome o (Has i)) (sym (slice_get-map station_of old.substations i))
        (mapped (Has i) (slice_get old.substations i) (all i))

    by : (called : Called (map station_of old.substations)) → EachHas Has (after_called (map station_of old.substations) called)
    by Nobody = before
    by (Refused n was kind index reading fault there refused) = before
    by (Outstation n was call there) =
        set_has Has (map station_of old.substations) n (after_call was call) before
        (keeps n was call (subst (λ (o : Option State). IfSome o (Has n)) there (before n)))
