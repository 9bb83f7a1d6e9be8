-- Private steps: what a concentrator with two centres takes of a substation, and what stays of it where one centre is served.
use Rattle.std.specs.Prelude.{◌≡◌, ◌≢◌, ℕ, false, List, [], slice_set}
use Rattle.dnp_concentrator.specs.Below.{link_in, readings_set}
use Rattle.dnp_concentrator.specs.Concentrator.{core_of, links_of, plan_above, queue_of}
use Rattle.dnp_concentrator.specs.Mapped.{queued_rows}
use Rattle.dnp_concentrator.specs.Relaying as relaying
use Rattle.dnp_concentrator.specs.declared.concentrator.Concentrator.{Concentrator}
use Rattle.dnp_concentrator.specs.declared.per_centre.PerCentre.{PerCentre}
use Rattle.dnp_concentrator.specs.PerCentre.{at, of_each}
use Rattle.dnp_eventbuf.specs.Sides.{ForEach, other_than}
use Rattle.dnp_eventbuf.specs.EventBuffer.{EventBuffer, dropped_by, exhausts, with_rows}
use Rattle.dnp_master.specs.Calls.{Taking}
use Rattle.dnp_objects.specs.declared.lane.LaneRow.{LaneRow}
use Rattle.dnp_objects.specs.declared.row.Row.{Row}
use Rattle.dnp_outstation.specs.State.{Core}
use Rattle.dnp_outstation.specs.Station.{with_points}
use Rattle.dnp_world.specs.Wholes.{WholeConcentrator}

-- ---- what comes from a substation

-- its events, as they are queued for both centres
abbrev pub queued_for : WholeConcentrator → ℕ → Taking → List LaneRow
queued_for c substation t = queued_rows c.indices c.points substation t.events

-- an outstation above with the readings that its rows set
abbrev pub with_readings_of : WholeConcentrator → ℕ → Taking → Core → Core
with_readings_of c substation t core =
    with_points core (readings_set c.indices substation (readings_set c.indices substation core.points t.events) t.statics)

abbrev pub concentrator_taken : WholeConcentrator → ℕ → Taking → WholeConcentrator
concentrator_taken c substation t = record c {
  cores = of_each (with_readings_of c substation t) c.cores;
  queues = of_each (λ (s : EventBuffer). with_rows s (queued_for c substation t)) c.queues;
  links = slice_set c.links substation (relaying.received (link_in c.links substation) t);
}

abbrev pub dropped_for : WholeConcentrator → ℕ → Taking → PerCentre (List Row)
dropped_for c substation t = of_each (λ (s : EventBuffer). dropped_by s (queued_for c substation t)) c.queues

-- both queues have numbers left for its events
abbrev pub HaveNumbers : WholeConcentrator → ℕ → Taking → Type 0
HaveNumbers c substation t = t.events ≢ [] → ForEach (λ centre. exhausts (at centre c.queues) (queued_for c substation t) ≡ false)

-- ---- where one centre is served

-- what is the other centre's stays, and so do the links below and the plan
pub record KeepsOtherCentre {Q B : Type 0} (honest : Q → Type 0) (contents : Q → ℕ → EventBuffer) (centre : ℕ) (old new : Concentrator Q B) : Type 0 where
  pub core : core_of (other_than centre) new ≡ core_of (other_than centre) old
  pub side : honest (queue_of new) → contents (queue_of new) (other_than centre) ≡ contents (queue_of old) (other_than centre)
  pub links : links_of new ≡ links_of old
  pub plan : plan_above new ≡ plan_above old
