-- The laws that the body calls are what the lemmas ask for.
use Rattle.dnp_world.proofs.PlannedPoints.{ClassLaws, planned_on}
use Rattle.dnp_world.proofs.EventTouches.{touches}
use Rattle.dnp_world.proofs.planned_laws.substations_keep_their_points.Goals as goal

laws_of : goal.After-a_change_is_of_one_point → ClassLaws
laws_of c = record {
  content = record {
    keeps_opened = c.a_connection_leaves_the_points_alone.ensures.opened;
    keeps_received = c.a_connection_leaves_the_points_alone.ensures.received;
    keeps_ticked = c.a_connection_leaves_the_points_alone.ensures.ticked;
    keeps_ended = c.a_connection_leaves_the_points_alone.ensures.ended;
    none_opened = c.a_connection_drops_no_row.ensures.opened;
    none_received = c.a_connection_drops_no_row.ensures.received;
    none_ticked = c.a_connection_drops_no_row.ensures.ticked;
  };
  changed = c.a_change_is_of_one_point.ensures.changed;
  others = c.a_change_is_of_one_point.ensures.others_changed;
  restarted = c.a_change_is_of_one_point.ensures.restarted;
}

pub returns : goal.returns
returns c = λ plan old new event happens. planned_on (laws_of c) plan old new (touches old new event happens)
