-- The laws that the body calls.
use Rattle.dnp_world.proofs.joined_laws.moves_are_promised.Goals as goal

pub returns : goal.returns
returns c = record {
  line = record { reopened = c.line_law.ensures.reopened; kept = c.line_law.ensures.kept };
  points = record {
    keeps_opened = c.a_connection_leaves_the_points_alone.ensures.opened;
    keeps_received = c.a_connection_leaves_the_points_alone.ensures.received;
    keeps_ticked = c.a_connection_leaves_the_points_alone.ensures.ticked;
    keeps_ended = c.a_connection_leaves_the_points_alone.ensures.ended;
    none_opened = c.a_connection_drops_no_row.ensures.opened;
    none_received = c.a_connection_drops_no_row.ensures.received;
    none_ticked = c.a_connection_drops_no_row.ensures.ticked;
  };
  outstation = record {
    opens = c.an_opening_is_moves.ensures;
    comes = c.what_comes_is_moves.ensures;
    ticks = c.time_is_moves.ensures;
    changes = c.a_change_is_moves.ensures.changed;
    closes = c.a_closing_is_moves.ensures.closed;
    restarts = c.a_closing_is_moves.ensures.restarted;
    silent_received = c.a_closed_outstation_is_silent.ensures.received;
    silent_ticked = c.a_closed_outstation_is_silent.ensures.ticked;
    ends = c.an_unsolicited_response_starts_where_none_is_awaited.ensures.ends;
  };
  master = record {
    came = c.a_master_takes_by_moves.ensures.came;
    asks = c.a_master_asks_by_a_move.ensures;
    asked = c.an_idle_master_asks.ensures;
    hung_up = c.a_master_opens_and_closes_by_moves.ensures.hung_up;
    ticked = c.a_master_opens_and_closes_by_moves.ensures.ticked;
    takes = c.what_comes_is_taken_or_passed_over.ensures;
    silent_receives = c.a_closed_master_is_silent.ensures.receives;
  };
}
