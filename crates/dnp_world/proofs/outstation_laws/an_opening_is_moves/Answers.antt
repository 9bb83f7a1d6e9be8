-- The laws of lower crates that the body calls are what the lemmas ask for.
use Rattle.dnp_world.proofs.OutstationLaws.{EndLaws}
use Rattle.dnp_world.proofs.OutstationOpenings.{OpenLaws, opening_simulates}
use Rattle.dnp_world.proofs.outstation_laws.an_opening_is_moves.Goals as goal

pub returns : goal.returns
returns c =
    let ends : EndLaws = record {
      unsolicited = c.fragments_report_the_rows_up_to_their_ids.ensures.unsolicited;
      ends = c.an_unsolicited_response_starts_where_none_is_awaited.ensures.ends;
    } in
    let laws : OpenLaws = record {
      opens = c.an_unsolicited_response_starts_where_none_is_awaited.ensures.opens;
      opens_again = c.an_unsolicited_response_starts_where_none_is_awaited.ensures.opens_again;
      first = c.fragments_report_the_rows_up_to_their_ids.ensures.first_unsolicited;
      performed = c.commands_are_performed_as_they_are_asked.ensures.opened;
      order = c.calls_keep_a_connection_in_order.ensures.opened;
      tidy = c.calls_leave_nothing_else_given.ensures.opened;
    } in
    opening_simulates ends laws
