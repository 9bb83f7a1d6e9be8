-- Definition: what an event makes of a system as one centre sees it, by what events of its kind do; and lists of events, of systems of
-- any kind (own rule: IEEE Std 1815-2012 speaks of one link at a time).
use Rattle.std.specs.Prelude.{◌≡◌, ℕ, ◌+◌, ◌^◌, ◌-◌, Bool, true, false, ◌&&◌, List, [], ◌∷◌, min, take, slice_get, Option, Some, None, is_some, is_ok}
use Rattle.dnp_objects.specs.declared.row.Kind.{Kind}
use Rattle.dnp_pointdb.specs.declared.reading.Reading.{Reading}
use Rattle.dnp_pointdb.specs.Database.{answer_of}
use Rattle.dnp_line.specs.Lines.{delivered_on, repeated_on}
use Rattle.dnp_master.specs.Calls.{ask_answer}
use Rattle.dnp_master.specs.State.{is_idle}
use Rattle.dnp_concentrator.specs.Mapped.{command_above}
use Rattle.dnp_world.specs.Channels.{DamagesAt}
use Rattle.dnp_world.specs.OneLinkEvents.{is_own}
use Rattle.dnp_world.specs.Systems.{SubstationState, System, front_on, has_substation, has_link}
use Rattle.dnp_world.specs.SystemEvents.{LinesChange, OpensOn, HangsUpOn, concentrator_restarted, SubstationRestarts, ComesOn, LosesOn, Reads, AsksOn, RelaysOn, IssuesBy, MasterTicks, OutstationTicks, relaying_at}
use Rattle.dnp_world.specs.declared.event.Event.{Event}
use Rattle.dnp_world.specs.declared.event.Event.TheVariants as event
use Rattle.dnp_world.specs.declared.event.Link.TheVariants.{Above}
use Rattle.dnp_world.specs.declared.event.Place.TheVariants as place
use Rattle.dnp_world.specs.declared.link_event.End.TheVariants as end

-- ---- the events

-- an event of what is there, and else nothing
abbrev pub IfThere : {World : Type 0} → Bool → (World → World → Type 0) → World → World → Type 0
IfThere true Change old new = Change old new
IfThere false Change old new = new ≡ old

-- The event makes `new` of `old`; one that names nothing in the plan does nothing. What names a centre names the one that sees it: what
-- is at another one is elsewhere.
abbrev pub Happens : System → Event → System → Type 0
Happens old (event.Open on) new = IfThere (has_link old on) (OpensOn on) old new
Happens old (event.HangUp on end) new = IfThere (has_link old on) (HangsUpOn on end) old new
Happens old (event.Deliver on way) new = IfThere (has_link old on) (ComesOn delivered_on on way) old new
Happens old (event.Repeat on way) new = IfThere (has_link old on) (ComesOn repeated_on on way) old new
Happens old (event.Lose on way) new = IfThere (has_link old on) (LosesOn on way) old new
Happens old (event.Damage on way octets) new = IfThere (has_link old on) (LinesChange on (DamagesAt way octets)) old new
Happens old (event.Change substation kind index reading) new = IfThere (has_substation old substation) (Reads substation kind index reading) old new
Happens old (event.Ask on task) new = IfThere (has_link old on) (AsksOn (is_own task) on task) old new
Happens old (event.Issue centre substation command) new =
    IssuesBy (command_above old.centre.indices substation command) substation command old new
Happens old (event.Relay on) new = IfThere (has_link old on) (RelaysOn on) old new
Happens old (event.Pass ms) new = new ≡ record old { now = min (old.now + ms) (2 ^ 64 - 1) }
Happens old (event.Tick on end.Master) new = IfThere (has_link old on) (MasterTicks on) old new
Happens old (event.Tick on end.Outstation) new = IfThere (has_link old on) (OutstationTicks on) old new
Happens old (event.Restart (place.Centre centre)) new = HangsUpOn (Above centre) end.Master old new
Happens old (event.Restart place.Concentrator) new = new ≡ concentrator_restarted old
Happens old (event.Restart (place.Substation substation)) new = IfThere (has_substation old substation) (SubstationRestarts substation) old new

-- ---- where a list of events may stop

-- the substation is there, and its points take the reading
abbrev pub takes_reading : Option SubstationState → Kind → ℕ → Reading → Bool
takes_reading None kind index reading = false
takes_reading (Some s) kind index reading = is_ok (answer_of s.core.points kind index reading)

-- The events at which a store, or a request for memory, is asked, by the system as it stands: none that names nothing in the plan,
-- finds an empty line, brings what its station refuses, a reading, a task or a command, or relays over a master that waits.
abbrev pub may_stop : System → Event → Bool
may_stop s (event.Open on) = has_link s on
may_stop s (event.HangUp on end) = false
may_stop s (event.Deliver on way) = is_some (front_on s on way)
may_stop s (event.Repeat on way) = is_some (front_on s on way)
may_stop s (event.Lose on way) = false
may_stop s (event.Damage on way octets) = false
may_stop s (event.Change substation kind index reading) =
    has_substation s substation && takes_reading (slice_get s.substations substation) kind index reading
may_stop s (event.Ask on task) = has_link s on && (is_own task && is_ok (ask_answer (relaying_at s on).master task))
may_stop s (event.Issue centre substation command) = is_some (command_above s.centre.indices substation command)
may_stop s (event.Relay on) = has_link s on && is_idle (relaying_at s on).master
may_stop s (event.Pass ms) = false
may_stop s (event.Tick on end.Master) = false
may_stop s (event.Tick on end.Outstation) = has_link s on
may_stop s (event.Restart (place.Centre centre)) = false
may_stop s (event.Restart place.Concentrator) = false
may_stop s (event.Restart (place.Substation substation)) = has_substation s substation

-- ---- lists of events, by what one event makes of a system

module _ {World : Type 0} (Makes : World → Event → World → Type 0) where
  -- they happen one after the other
  abbrev pub RunsTo : World → List Event → World → Type 0
  RunsTo old [] new = new ≡ old
  RunsTo old (event ∷ events) new = (next : World) × Makes old event next × RunsTo next events new

  -- an event at which a list stops is lost if it is a delivery, and else left out
  abbrev pub CountsFor : World → Event → World → Type 0
  CountsFor old (event.Deliver on way) new = Makes old (event.Lose on way) new
  CountsFor old event new = new ≡ old

  -- so many events were done, and the list stopped at the one after them, whose refusal has changed nothing
  pub record StopsAfter (can_stop : World → Event → Bool) (old : World) (events : List Event) (done : ℕ) (new : World) : Type 0 where
    pub before : World
    pub ran : RunsTo old (take done events) before
    pub event : Event
    pub next : slice_get events done ≡ Some event
    pub may : can_stop before event ≡ true
    pub counts : CountsFor before event new
