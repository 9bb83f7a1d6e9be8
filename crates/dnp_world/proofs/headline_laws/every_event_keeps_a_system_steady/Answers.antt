-- Each event by the law of its kind.
use Rattle.std.proofs.Common.{◌≡◌, ℕ, Bool, true, false, [], ◌∷◌, refl, sym}
use Rattle.std.specs.Prelude.{⊤, ◌+◌, ◌^◌, ◌-◌, if◌then◌else◌, min, slice_get}
use Rattle.dnp_objects.specs.declared.row.Kind.{Kind}
use Rattle.dnp_pointdb.specs.declared.reading.Reading.{Reading}
use Rattle.dnp_world.specs.Behind.{Elsewhere, made_at}
use Rattle.dnp_world.specs.Kept.{report_of}
use Rattle.dnp_world.specs.Steady.{Goes, IsSteadyBeside}
use Rattle.dnp_world.specs.SystemEvents.{Reads}
use Rattle.dnp_world.specs.SystemRuns.{Happens, IfThere}
use Rattle.dnp_world.specs.SystemStanding.{Keeps}
use Rattle.dnp_world.specs.Systems.{System, has_substation}
use Rattle.dnp_world.specs.declared.event.Event.{Event}
use Rattle.dnp_world.specs.declared.event.Event.TheVariants as event
use Rattle.dnp_world.specs.declared.event.Link.TheVariants.{Below, Above}
use Rattle.dnp_world.specs.declared.event.Place.TheVariants as place
use Rattle.dnp_world.specs.declared.link_event.End.TheVariants as end
use Rattle.dnp_world.specs.declared.link_event.Way.TheVariants as way
use Rattle.dnp_world.specs.declared.link_event.LinkEvent.TheVariants as link_event
use Rattle.dnp_world.proofs.EventPoints.{made_by, made_once, read_at}
use Rattle.dnp_world.proofs.Lasting.{fate_as}
use Rattle.dnp_world.proofs.headline_laws.every_event_keeps_a_system_steady.Goals as goal

-- what an event keeps behind the system, where it is none that makes a row
abbrev KeepsBehind : Elsewhere → System → Event → System → Type 0
KeepsBehind el old (event.Change substation kind index reading) new = ⊤
KeepsBehind el old e new = (substation : ℕ) × Keeps el substation [] old new

module _ (c : goal.After-substations_stay_settled) (old new : System) {el : Elsewhere} (s : IsSteadyBeside el old) where
  -- what keeps links behind a system, with no row made
  none : (event : Event) → Happens old event new → (substation : ℕ) × Keeps el substation [] old new → Goes el (λ i. []) old new
  none event h (substation, k) = record {
    steady = record {
      standing = k.standing;
      happened = c.what_happened_can_be_reported.ensures.kept old new el substation s.happened k;
      planned = c.systems_stay_as_planned.ensures.kept old new el substation event s.planned h k;
      settled = c.substations_stay_settled.ensures.event old new event s.settled h;
      controls = c.controls_stay_in_step.ensures.event old new el event h s.standing s.controls;
    };
    fate = k.fate;
  }

  -- an event of what the plan has, or has not
  there : (substation : ℕ) (Change : System → System → Type 0) → (has_substation old substation ≡ true → Change old new → Keeps el substation [] old new)
      → IfThere (has_substation old substation) Change old new → (substation : ℕ) × Keeps el substation [] old new
  there substation Change keeps = by (has_substation old substation) keeps
    where
      by : (b : Bool) → (b ≡ true → Change old new → Keeps el substation [] old new) → IfThere b Change old new → (substation : ℕ)
          × Keeps el substation [] old new
      by true keeps change = (substation, keeps refl change)
      by false keeps same = (substation, c.other_events_keep_what_stands.ensures.passed old new el old.now substation s.standing same)

  -- the row that a reading makes
  reads : (b : Bool) (substation : ℕ) (kind : Kind) (index : ℕ) (reading : Reading) → Happens old (event.Change substation kind index reading) new
      → IfThere b (Reads substation kind index reading) old new
      → Goes el (λ i. if b then made_at substation (read_at (slice_get old.substations substation) kind index reading) i else []) old new
  reads true substation kind index reading h r =
      let k = c.events_below_keep_what_stands.ensures.read old new el substation kind index reading s.standing r in
      record {
        steady = record {
          standing = k.standing;
          happened = c.what_happened_can_be_reported.ensures.read old new el substation r.was.core.points
              (link_event.Change kind index reading ∷ []) s.happened k;
          planned = c.systems_stay_as_planned.ensures.read old new el substation kind index reading s.planned h r k;
          settled = c.substations_stay_settled.ensures.event old new (event.Change substation kind index reading) s.settled h;
          controls = c.controls_stay_in_step.ensures.event old new el (event.Change substation kind index reading) h s.standing s.controls;
        };
        fate = rw r.there k.fate;
      }
  reads false substation kind index reading h same =
      none (event.Change substation kind index reading) h
      (substation, c.other_events_keep_what_stands.ensures.passed old new el old.now substation s.standing same)

  -- each event but a reading
  keeps : (event : Event) → Happens old event new → KeepsBehind el old event new
  keeps (event.Open (Below substation)) h = there substation _ (λ is e. c.calls_below_keep_what_stands.ensures.opened old new el substation is s.standing e) h
  keeps (event.Open (Above centre)) h = (0, c.events_above_keep_what_stands.ensures.opened centre old new el 0 s.standing h)
  keeps (event.HangUp (Below substation) end.Master) h =
      there substation _ (λ is e. c.calls_below_keep_what_stands.ensures.hung_up old new el substation is s.standing e) h
  keeps (event.HangUp (Below substation) end.Outstation) h =
      there substation _ (λ is e. c.events_below_keep_what_stands.ensures.hung_up old new el substation s.standing e) h
  keeps (event.HangUp (Above centre) end.Master) h = (0, c.events_above_keep_what_stands.ensures.centre_hung_up centre old new el 0 s.standing h)
  keeps (event.HangUp (Above centre) end.Outstation) h = (0, c.events_above_keep_what_stands.ensures.concentrator_hung_up centre old new el 0 s.standing h)
  keeps (event.Deliver (Below substation) way.Down) h =
      there substation _ (λ is e. c.events_below_keep_what_stands.ensures.delivered old new el substation s.standing e) h
  keeps (event.Deliver (Below substation) way.Up) h =
      there substation _ (λ is e. c.what_comes_from_a_substation_keeps_what_stands.ensures.delivered old new el substation is s.standing s.happened e) h
  keeps (event.Deliver (Above centre) way.Down) h = (0, c.what_comes_to_the_concentrator_keeps_what_stands.ensures.delivered old new el 0 s.standing h)
  keeps (event.Deliver (Above centre) way.Up) h = (0, c.what_comes_to_the_centre_keeps_what_stands.ensures.delivered centre old new el 0 s.standing h)
  keeps (event.Repeat (Below substation) way.Down) h =
      there substation _ (λ is e. c.events_below_keep_what_stands.ensures.repeated old new el substation s.standing e) h
  keeps (event.Repeat (Below substation) way.Up) h =
      there substation _ (λ is e. c.what_comes_from_a_substation_keeps_what_stands.ensures.repeated old new el substation is s.standing s.happened e) h
  keeps (event.Repeat (Above centre) way.Down) h = (0, c.what_comes_to_the_concentrator_keeps_what_stands.ensures.repeated old new el 0 s.standing h)
  keeps (event.Repeat (Above centre) way.Up) h = (0, c.what_comes_to_the_centre_keeps_what_stands.ensures.repeated centre old new el 0 s.standing h)
  keeps (event.Lose (Below substation) w) h = there substation _ (λ is e. c.events_below_keep_what_stands.ensures.lost old new el substation w s.standing e) h
  keeps (event.Lose (Above centre) w) h = (0, c.events_above_keep_what_stands.ensures.lost centre old new el 0 w s.standing h)
  keeps (event.Damage (Below substation) w octets) h =
      there substation _ (λ is e. c.calls_below_keep_what_stands.ensures.damaged old new el substation w octets s.standing e) h
  keeps (event.Damage (Above centre) w octets) h = (0, c.events_above_keep_what_stands.ensures.damaged centre old new el 0 w octets s.standing h)
  keeps (event.Change substation kind index reading) h = tt
  keeps (event.Ask (Below substation) task) h =
      there substation _ (λ is e. c.calls_below_keep_what_stands.ensures.asked old new el substation task is s.standing e) h
  keeps (event.Ask (Above centre) task) h = (0, c.events_above_keep_what_stands.ensures.asked centre old new el 0 task s.standing h)
  keeps (event.Issue centre substation command) h = (substation, c.other_events_keep_what_stands.ensures.issued old new el substation command s.standing h)
  keeps (event.Relay (Below substation)) h =
      there substation _ (λ is e. c.relaying_keeps_what_stands.ensures.below old new el substation is s.standing s.controls e) h
  keeps (event.Relay (Above centre)) h = (0, c.relaying_keeps_what_stands.ensures.above centre old new el 0 s.standing s.controls h)
  keeps (event.Pass ms) h = (0, c.other_events_keep_what_stands.ensures.passed old new el (min (old.now + ms) (2 ^ 64 - 1)) 0 s.standing h)
  keeps (event.Tick (Below substation) end.Master) h =
      there substation _ (λ is e. c.calls_below_keep_what_stands.ensures.ticked old new el substation is s.standing e) h
  keeps (event.Tick (Below substation) end.Outstation) h =
      there substation _ (λ is e. c.events_below_keep_what_stands.ensures.ticked old new el substation s.standing e) h
  keeps (event.Tick (Above centre) end.Master) h = (0, c.events_above_keep_what_stands.ensures.centre_ticked centre old new el 0 s.standing h)
  keeps (event.Tick (Above centre) end.Outstation) h = (0, c.events_above_keep_what_stands.ensures.concentrator_ticked centre old new el 0 s.standing h)
  keeps (event.Restart (place.Centre centre)) h = (0, c.events_above_keep_what_stands.ensures.centre_hung_up centre old new el 0 s.standing h)
  keeps (event.Restart place.Concentrator) h = (0, c.a_restart_of_the_concentrator_keeps_what_stands.ensures old new el 0 s.standing h)
  keeps (event.Restart (place.Substation substation)) h =
      there substation _ (λ is e. c.events_below_keep_what_stands.ensures.restarted old new el substation s.standing e) h

  goes : (event : Event) → Happens old event new → Goes el (made_by old event) old new
  goes (event.Change substation kind index reading) h = reads (has_substation old substation) substation kind index reading h h
  goes e h = none e h (keeps e h)

pub returns : goal.returns
returns c = λ old new el event s h.
    let g : Goes el (made_by old event) old new = goes c old new s event h in
    record { steady = g.steady; fate = fate_as (made_by old event) _ (report_of old) (report_of new) (λ i. sym (made_once old event i)) g.fate }
