-- By what each call makes of the points.
use Rattle.dnp_world.proofs.EventPoints.{made_behind}
use Rattle.dnp_world.proofs.headline_laws.rows_are_made_by_events_alone.Goals as goal
use Rattle.dnp_world.specs.steps.MoveLaws.{PointLaws}

laws_of : goal.After-a_connection_drops_no_row → PointLaws
laws_of c = record {
  keeps_opened = c.a_connection_leaves_the_points_alone.ensures.opened;
  keeps_received = c.a_connection_leaves_the_points_alone.ensures.received;
  keeps_ticked = c.a_connection_leaves_the_points_alone.ensures.ticked;
  keeps_ended = c.a_connection_leaves_the_points_alone.ensures.ended;
  none_opened = c.a_connection_drops_no_row.ensures.opened;
  none_received = c.a_connection_drops_no_row.ensures.received;
  none_ticked = c.a_connection_drops_no_row.ensures.ticked;
}

pub returns : goal.returns
returns c = made_behind (laws_of c)
