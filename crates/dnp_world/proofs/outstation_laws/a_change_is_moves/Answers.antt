-- The laws of lower crates that the body calls are what the lemmas ask for.
use Rattle.dnp_world.proofs.OutstationChanges.{ChangeLaws, change_simulates, points_shown}
use Rattle.dnp_world.proofs.outstation_laws.a_change_is_moves.Goals as goal

laws_of : goal.After-a_change_makes_what_its_lane_takes → ChangeLaws
laws_of c = record {
  ends = record {
    unsolicited = c.fragments_report_the_rows_up_to_their_ids.ensures.unsolicited;
    ends = c.an_unsolicited_response_starts_where_none_is_awaited.ensures.ends;
  };
  rows = record {
    appended = c.lanes_are_moved.ensures.appended;
    dropped = c.an_append_is_of_one_row.ensures.dropped;
  };
  sound = c.lanes_stay_sound.ensures.appended;
  carried = c.a_change_makes_what_its_lane_takes.ensures;
  points = c.points_stay_sound.ensures.changed;
  row = c.a_change_of_note_is_an_event.ensures.row;
  performed = c.commands_are_performed_as_they_are_asked.ensures.changed;
  order = c.calls_keep_a_connection_in_order.ensures.changed;
  tidy = c.calls_leave_nothing_else_given.ensures.changed;
}

pub returns-clause-changed : goal.returns-clause-changed
returns-clause-changed c = change_simulates (laws_of c)

pub returns-clause-written : goal.returns-clause-written
returns-clause-written c = points_shown
