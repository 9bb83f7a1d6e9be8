-- The laws of lower crates that the body calls are what the lemmas ask for.
use Rattle.dnp_world.proofs.OutstationOpenings.{CloseLaws, closing_simulates, restart_simulates}
use Rattle.dnp_world.proofs.outstation_laws.a_closing_is_moves.Goals as goal

laws_of : goal.After-calls_keep_a_connection_in_order → CloseLaws
laws_of c = record {
  lanes_emptied = c.lanes_are_moved.ensures.emptied;
  emptied = c.lanes_stay_sound.ensures.emptied;
  points = c.points_stay_sound.ensures.restarted;
  order = c.calls_keep_a_connection_in_order.ensures.closed;
  tidy = c.calls_leave_nothing_else_given.ensures.closed;
  restart_order = c.calls_keep_a_connection_in_order.ensures.restarted;
  restart_tidy = c.calls_leave_nothing_else_given.ensures.restarted;
}

pub returns-clause-closed : goal.returns-clause-closed
returns-clause-closed c = closing_simulates (laws_of c)

pub returns-clause-restarted : goal.returns-clause-restarted
returns-clause-restarted c = restart_simulates (laws_of c)
