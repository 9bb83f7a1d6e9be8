-- The laws of lower crates that the body calls are what the lemmas ask for.
use Rattle.dnp_world.proofs.OutstationCases.{Laws, comes_simulates}
use Rattle.dnp_world.proofs.outstation_laws.what_comes_is_moves.Goals as goal

laws_of : goal.After-what_is_sound_can_be_written → Laws
laws_of c = record {
  ends = record {
    unsolicited = c.fragments_report_the_rows_up_to_their_ids.ensures.unsolicited;
    ends = c.an_unsolicited_response_starts_where_none_is_awaited.ensures.ends;
  };
  answers = record {
    writable = c.what_is_sound_can_be_written.ensures;
    answer = c.fragments_report_the_rows_up_to_their_ids.ensures.answer;
    keeps = c.content_leaves_the_connection_alone.ensures.keeps;
    ids = c.fragments_have_an_id_for_each_lane.ensures.answer;
  };
  releases = record {
    left = c.lanes_are_moved.ensures.released;
    given = c.lanes_are_moved.ensures.given;
    sound = c.lanes_stay_sound.ensures.released;
  };
  further = record {
    tidy = c.calls_leave_nothing_else_given.ensures.further;
    further = c.fragments_report_the_rows_up_to_their_ids.ensures.further;
    ids = c.fragments_have_an_id_for_each_lane.ensures.further;
  };
  held = record {
    held = c.fragments_report_the_rows_up_to_their_ids.ensures.held;
    keeps = c.content_leaves_the_connection_alone.ensures.keeps_held;
    answers = c.content_leaves_the_connection_alone.ensures.answers_held;
    ids = c.fragments_have_an_id_for_each_lane.ensures.held;
    answered = c.a_held_read_is_answered_behind_the_confirm.ensures.answered;
    none_held = c.a_held_read_is_answered_behind_the_confirm.ensures.none_held;
    waits = c.a_held_read_is_answered_behind_the_confirm.ensures.waits;
  };
  calls = record {
    says = c.each_case_says_what_came.ensures;
    performed = c.commands_are_performed_as_they_are_asked.ensures.performed;
    only = c.commands_are_performed_as_they_are_asked.ensures.only;
    again = c.a_repeated_request_executes_nothing.ensures.again;
    order = c.calls_keep_a_connection_in_order.ensures.received;
    tidy = c.calls_leave_nothing_else_given.ensures.received;
  };
}

pub returns : goal.returns
returns c = λ s o now octets l rest shown small shows stands down_is. comes_simulates (laws_of c) s o now octets l rest shown small shows stands down_is
