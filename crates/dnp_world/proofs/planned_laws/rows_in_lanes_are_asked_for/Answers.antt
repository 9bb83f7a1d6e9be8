-- The laws that the body calls are what the lemmas ask for.
use Rattle.std.specs.Prelude.{nat_eq}
use Rattle.dnp_objects.specs.Equality.{row_eq}
use Rattle.dnp_world.proofs.Headline.{LinkLaws}
use Rattle.dnp_world.proofs.PlannedLanes.{MapLaws, all_above, all_below}
use Rattle.dnp_world.proofs.planned_laws.rows_in_lanes_are_asked_for.Goals as goal

laws_of : goal.After-no_event_is_passed_over → LinkLaws
laws_of c = record {
  covered = c.link_law.ensures.covered;
  stood = c.link_law.ensures.stood;
  whole = c.link_law.ensures.whole;
  performed = c.link_law.ensures.performed;
}

maps_of : goal.After-no_event_is_passed_over → MapLaws
maps_of c = record {
  above = c.each_direction_undoes_the_other.ensures.down_and_up;
  queued = c.no_event_is_passed_over.ensures.one;
}

pub returns-clause-below : goal.returns-clause-below
returns-clause-below c = all_below

pub returns-clause-above : goal.returns-clause-above
returns-clause-above c =
    all_above (laws_of c) (maps_of c)
    (c.equality_is_decided.ensures.pairs nat_eq row_eq c.equality_is_decided.ensures.numbers c.equality_is_decided.ensures.rows)
