-- Definition: what events make of a whole system with two centres: to each centre what they make of the system that it sees, and what
-- is at the other one is elsewhere (own rule: IEEE Std 1815-2012 speaks of one link at a time).
use Rattle.std.specs.Prelude.{◌≡◌, ◌==◌, ℕ, Bool, true, false, ◌&&◌, not, nat_lt, if◌then◌else◌, List, ◌++◌, Option, Some, None}
use Rattle.dnp_objects.specs.declared.command.Command.{Command}
use Rattle.dnp_concentrator.specs.BookOutputs.{all_added}
use Rattle.dnp_eventbuf.specs.Sides.{ForEach}
use Rattle.dnp_eventbuf.specs.declared.pair.TheConstants.{CENTRES}
use Rattle.dnp_world.specs.Rounds as one_round
use Rattle.dnp_world.specs.SystemRuns as one
use Rattle.dnp_world.specs.SystemRuns.{Happens, IfThere}
use Rattle.dnp_world.specs.Systems as one_system
use Rattle.dnp_world.specs.Systems.{System}
use Rattle.dnp_world.specs.Wholes.{Whole, seen_by}
use Rattle.dnp_world.specs.declared.event.Event.{Event}
use Rattle.dnp_world.specs.declared.event.Event.TheVariants as event
use Rattle.dnp_world.specs.declared.event.Link.{Link}
use Rattle.dnp_world.specs.declared.event.Link.TheVariants.{Below, Above}
use Rattle.dnp_world.specs.declared.event.Place.{Place}
use Rattle.dnp_world.specs.declared.event.Place.TheVariants as place
use Rattle.dnp_world.specs.declared.link_event.Way.{Way}

-- ---- where an event is

-- the centre that a link is to
abbrev pub centre_of : Link → Option ℕ
centre_of (Below substation) = None
centre_of (Above centre) = Some centre

abbrev pub centre_in : Place → Option ℕ
centre_in (place.Centre centre) = Some centre
centre_in place.Concentrator = None
centre_in (place.Substation substation) = None

-- the centre at which an event is, or on the link to it; none where it is of the concentrator and the substations
abbrev pub centre_at : Event → Option ℕ
centre_at (event.Open on) = centre_of on
centre_at (event.HangUp on end) = centre_of on
centre_at (event.Deliver on way) = centre_of on
centre_at (event.Repeat on way) = centre_of on
centre_at (event.Lose on way) = centre_of on
centre_at (event.Damage on way octets) = centre_of on
centre_at (event.Change substation kind index reading) = None
centre_at (event.Ask on task) = centre_of on
centre_at (event.Issue centre substation command) = Some centre
centre_at (event.Relay on) = centre_of on
centre_at (event.Pass ms) = None
centre_at (event.Tick on end) = centre_of on
centre_at (event.Restart place) = centre_in place

-- the link that an event is on, or that to the station that it names; none where it names neither
abbrev pub link_of : Event → Option Link
link_of (event.Open on) = Some on
link_of (event.HangUp on end) = Some on
link_of (event.Deliver on way) = Some on
link_of (event.Repeat on way) = Some on
link_of (event.Lose on way) = Some on
link_of (event.Damage on way octets) = Some on
link_of (event.Change substation kind index reading) = Some (Below substation)
link_of (event.Ask on task) = Some on
link_of (event.Issue centre substation command) = Some (Above centre)
link_of (event.Relay on) = Some on
link_of (event.Pass ms) = None
link_of (event.Tick on end) = Some on
link_of (event.Restart (place.Centre centre)) = Some (Above centre)
link_of (event.Restart place.Concentrator) = None
link_of (event.Restart (place.Substation substation)) = Some (Below substation)

-- there is such a centre, or none is named
abbrev pub is_there : Option ℕ → Bool
is_there None = true
is_there (Some number) = nat_lt number CENTRES

-- another centre than this one is named
abbrev pub is_elsewhere : ℕ → Option ℕ → Bool
is_elsewhere centre None = false
is_elsewhere centre (Some number) = not (number == centre)

-- what the centre that is named sees; where none is, what the first one sees
abbrev pub seen_at : Option ℕ → Whole → System
seen_at None w = seen_by 0 w
seen_at (Some number) w = seen_by number w

-- ---- what is made of the whole

-- What a centre sees of what is at another one: the concentrator's book may have more commands, more may have been issued, and another
-- point may be reserved. Nothing else has changed.
pub record SeesElsewhere (old new : System) : Type 0 where
  pub commands : List Command
  pub issues : List (ℕ × Command)
  pub after : new ≡ record old {
    concentrator = record old.concentrator {
      controls = all_added old.concentrator.indices old.concentrator.controls commands;
      reserved = new.concentrator.reserved;
    };
    history = record old.history { issued = old.history.issued ++ issues };
  }

-- so it is seen by a centre: the change, or that it was at another one
abbrev pub IsSeen : Bool → (System → System → Type 0) → System → System → Type 0
IsSeen true Change old new = SeesElsewhere old new
IsSeen false Change old new = Change old new

-- The change of what is at this centre, or of what all have in common, as each centre sees it. So all of the whole is said: what only
-- one centre sees by that one, and what all see by one to which it isn't elsewhere.
abbrev pub ChangesAll : Option ℕ → (System → System → Type 0) → Whole → Whole → Type 0
ChangesAll at Change old new = ForEach (λ centre. IsSeen (is_elsewhere centre at) Change (seen_by centre old) (seen_by centre new))

-- the event makes `new` of `old`; one that names no centre there is does nothing
abbrev pub HappensToAll : Whole → Event → Whole → Type 0
HappensToAll old event new = IfThere (is_there (centre_at event)) (ChangesAll (centre_at event) (λ s t. Happens s event t)) old new

-- ---- what is looked at

abbrev pub has_link : Whole → Link → Bool
has_link w on = is_there (centre_of on) && one_system.has_link (seen_at (centre_of on) w) on

-- there is the link, or none is named
abbrev pub has_named : Whole → Option Link → Bool
has_named w None = true
has_named w (Some on) = has_link w on

-- the plan has the link or the station that an event names, if it names one
abbrev pub names_plan : Whole → Event → Bool
names_plan w event = has_named w (link_of event)

-- how many units stand on the line of a link, none on one outside the plan
abbrev pub standing_on : Whole → Link → Way → ℕ
standing_on w on way = if is_there (centre_of on) then one_system.standing_on (seen_at (centre_of on) w) on way else 0

-- the octets of the unit that a line of a link gives next, if one stands there; none on one outside the plan
abbrev pub front_on : Whole → Link → Way → Option (List ℕ)
front_on w on way = if is_there (centre_of on) then one_system.front_on (seen_at (centre_of on) w) on way else None

-- the link is one of the plan, or above, and quiet
abbrev pub is_quiet_on : Whole → Link → Bool
is_quiet_on w on = is_there (centre_of on) && one_round.is_quiet_on (seen_at (centre_of on) w) on

-- the events at which a store, or a request for memory, is asked
abbrev pub may_stop : Whole → Event → Bool
may_stop w event = is_there (centre_at event) && one.may_stop (seen_at (centre_at event) w) event
