-- Definition: a concentrator and a centre that stop, and are opened again over what their stores then hold (own rule: IEEE Std
-- 1815-2012 knows no stores).
use Rattle.std.specs.Prelude.{◌≡◌, ◌⊎◌, List, [], ◌∷◌, ◌++◌, map}
use Rattle.dnp_concentrator.specs.Below.{new_links}
use Rattle.dnp_concentrator.specs.Plan.{map_of}
use Rattle.dnp_concentrator.specs.PointsAbove.{points_above}
use Rattle.dnp_concentrator.specs.Relaying.{hung_up}
use Rattle.dnp_concentrator.specs.Restarting.{LinkRestartsAsNew, RestartsAsNew}
use Rattle.dnp_concentrator.specs.declared.plan.Plan.{Plan}
use Rattle.dnp_concentrator.specs.PerCentre.{for_each}
use Rattle.dnp_concentrator.specs.declared.per_centre.PerCentre.{PerCentre}
use Rattle.dnp_controls.specs.Book.{Ledger}
use Rattle.dnp_eventbuf.specs.Archive.{Archive}
use Rattle.dnp_eventbuf.specs.Sides.{ForEach}
use Rattle.dnp_eventbuf.specs.EventBuffer.{EventBuffer}
use Rattle.dnp_outstation.specs.Calls.{restarted_core}
use Rattle.dnp_world.specs.Centres.{HappensToAll}
use Rattle.dnp_world.specs.FreshSystems.{fresh_centre, fresh_core}
use Rattle.dnp_world.specs.SystemRuns.{RunsTo}
use Rattle.dnp_world.specs.Systems.{CentreState, ConcentratorState, System}
use Rattle.dnp_world.specs.Wholes.{Whole, WholeConcentrator, seen_by}
use Rattle.dnp_world.specs.declared.event.Event.{Event}
use Rattle.dnp_world.specs.declared.event.Event.TheVariants as event
use Rattle.dnp_world.specs.declared.event.Place.{Place}

-- ---- what is made of a plan over stores

abbrev pub new_concentrator : Plan → PerCentre EventBuffer → Ledger → WholeConcentrator
new_concentrator plan queues controls = record {
  cores = for_each (λ centre. fresh_core plan);
  queues = queues;
  indices = map_of plan;
  points = points_above plan;
  controls = controls;
  links = new_links plan;
}

abbrev pub new_centre : Plan → Archive → Ledger → CentreState
new_centre plan journal orders = fresh_centre plan journal orders

-- a restart leaves what one centre sees of both as new of the plan, but for what their stores hold
pub record RestartAsNew (plan : Plan) (s : System) : Type 0 where
  pub concentrator : RestartsAsNew plan s.concentrator.core s.concentrator.links
  pub indices : s.concentrator.indices ≡ map_of plan
  pub points : s.concentrator.points ≡ points_above plan
  pub centre : LinkRestartsAsNew plan s.centre.link
  pub centre_indices : s.centre.indices ≡ map_of plan

-- so it leaves all of the whole
abbrev pub AllRestartAsNew : Plan → Whole → Type 0
AllRestartAsNew plan w = ForEach (λ centre. RestartAsNew plan (seen_by centre w))

-- ---- what an event changes

-- of a concentrator, as one centre sees it: nothing that a restart leaves, but for one of its two stores at most
pub record WritesOne (old new : ConcentratorState) : Type 0 where
  pub above : restarted_core new.core ≡ restarted_core old.core
  pub below : map hung_up new.links ≡ map hung_up old.links
  pub indices : new.indices ≡ old.indices
  pub points : new.points ≡ old.points
  pub one : (new.queue ≡ old.queue) ⊎ (new.controls ≡ old.controls)

-- and of a centre
pub record CentreWritesOne (old new : CentreState) : Type 0 where
  pub link : hung_up new.link ≡ hung_up old.link
  pub indices : new.indices ≡ old.indices
  pub one : (new.journal ≡ old.journal) ⊎ (new.orders ≡ old.orders)

pub record WriteOne (old new : System) : Type 0 where
  pub concentrator : WritesOne old.concentrator new.concentrator
  pub centre : CentreWritesOne old.centre new.centre

-- of the whole: the queues for both centres stand in one store
pub record AllWriteOne (old new : Whole) : Type 0 where
  pub seen : ForEach (λ centre. WriteOne (seen_by centre old) (seen_by centre new))
  pub one : (new.concentrator.queues ≡ old.concentrator.queues) ⊎ (new.concentrator.controls ≡ old.concentrator.controls)

-- ---- a stop

-- what a store holds after a stop within an event: what it held before the event, or what the event makes of it
abbrev pub HoldsEither : {Held : Type 0} → Held → Held → Held → Type 0
HoldsEither before after held = (held ≡ before) ⊎ (held ≡ after)

-- It stands so after these events and its restart, or after these, one more, and its restart.
pub record StandsRestarted (place : Place) (StandsSo : Whole → Type 0) (old : Whole) (events : List Event) (last : Event) : Type 0 where
  pub new : Whole
  pub stands : StandsSo new
  pub ran : RunsTo HappensToAll old (events ++ event.Restart place ∷ []) new ⊎ RunsTo HappensToAll old (events ++ last ∷ event.Restart place ∷ []) new
