-- The laws of lower crates that the body calls are what the lemmas ask for.
use Rattle.dnp_world.proofs.OutstationLaws.{EndLaws, TimerLaws}
use Rattle.dnp_world.proofs.OutstationTimers.{tick_simulates}
use Rattle.dnp_world.proofs.outstation_laws.time_is_moves.Goals as goal

pub returns : goal.returns
returns c =
    let ends : EndLaws = record {
      unsolicited = c.fragments_report_the_rows_up_to_their_ids.ensures.unsolicited;
      ends = c.an_unsolicited_response_starts_where_none_is_awaited.ensures.ends;
    } in
    let laws : TimerLaws = record {
      closed_ticks = c.a_closed_outstation_is_silent.ensures.ticked;
      none = c.an_unsolicited_response_is_repeated_as_it_was.ensures.none;
      waits = c.an_unsolicited_response_is_repeated_as_it_was.ensures.waits;
      repeats = c.an_unsolicited_response_is_repeated_as_it_was.ensures.repeats;
      closes = c.an_unsolicited_response_is_repeated_as_it_was.ensures.closes;
      performed = c.commands_are_performed_as_they_are_asked.ensures.ticked;
      order = c.calls_keep_a_connection_in_order.ensures.ticked;
      tidy = c.calls_leave_nothing_else_given.ensures.ticked;
    } in
    tick_simulates ends laws
