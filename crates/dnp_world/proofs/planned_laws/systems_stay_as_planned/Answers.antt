-- What happened by the law before, and the masters and the index map by the events.
use Rattle.std.proofs.Common.{◌≡◌, refl, ap, ◌∙◌}
use Rattle.dnp_world.specs.Planned.{HappenedAsPlanned, IsAsPlanned}
use Rattle.dnp_world.specs.Systems.{System}
use Rattle.dnp_world.specs.declared.event.Event.TheVariants as event
use Rattle.dnp_world.proofs.NewSystems.{masters_ask}
use Rattle.dnp_world.proofs.PlannedMasters.{Asked, asked_keep, asked_of}
use Rattle.dnp_world.proofs.Touches.{ends_of}
use Rattle.dnp_world.proofs.EventTouches.{touches}
use Rattle.dnp_world.proofs.planned_laws.systems_stay_as_planned.Goals as goal

goes_on : (old new : System) (h : IsAsPlanned old) → asked_of (ends_of new) ≡ asked_of (ends_of old) → HappenedAsPlanned h.plan new → IsAsPlanned new
goes_on old new h keeps happened = record {
  plan = h.plan;
  limits = h.limits;
  happened = happened;
  indices = ap (λ (a : Asked). a.indices) keeps ∙ h.indices;
  below = ap (λ (a : Asked). a.below) keeps ∙ h.below;
  above = ap (λ (a : Asked). a.above) keeps ∙ h.above;
}

pub returns-clause-at_first : goal.returns-clause-at_first
returns-clause-at_first c plan centre queue journal controls orders limits = record {
  plan = plan;
  limits = limits;
  happened = c.what_happens_is_of_the_plan.ensures.at_first plan centre queue journal controls orders limits;
  indices = refl;
  below = masters_ask plan.times plan.substations;
  above = refl;
}

pub returns-clause-kept : goal.returns-clause-kept
returns-clause-kept c old new el substation event h happens keeps =
    goes_on old new h (asked_keep old new (touches old new event happens))
    (c.what_happens_is_of_the_plan.ensures.kept h.plan old new el substation event h.happened happens keeps)

pub returns-clause-read : goal.returns-clause-read
returns-clause-read c old new el substation kind index reading h happens reads keeps =
    goes_on old new h (asked_keep old new (touches old new (event.Change substation kind index reading) happens))
    (c.what_happens_is_of_the_plan.ensures.read h.plan old new el substation kind index reading h.happened reads keeps)
