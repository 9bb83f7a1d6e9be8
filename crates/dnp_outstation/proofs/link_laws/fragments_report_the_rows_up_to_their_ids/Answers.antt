use Rattle.dnp_outstation.proofs.LinkFragments.{ReportLaws, answer_reports, held_reports, further_reports, unsolicited_reports, first_unsolicited_reports}
use Rattle.dnp_outstation.proofs.link_laws.fragments_report_the_rows_up_to_their_ids.Goals.{After-each_row_stands_once}
use Rattle.dnp_outstation.proofs.link_laws.fragments_report_the_rows_up_to_their_ids.Goals as goal

laws : After-each_row_stands_once → ReportLaws
laws c = record {
  rows = c.octets_say_what_is_held.ensures.rows;
  response = c.octets_say_what_is_held.ensures.response;
  spelled = c.what_is_spelled_is_said.ensures.response;
  given = c.a_release_is_by_ids.ensures.given;
  ids = c.each_row_stands_once.ensures.ids;
}

pub returns-clause-answer : goal.returns-clause-answer
returns-clause-answer c =
    answer_reports (laws (goal.at.returns-clause-answer c).After-each_row_stands_once) c.octets_say_a_request.ensures.request

pub returns-clause-held : goal.returns-clause-held
returns-clause-held c = held_reports (laws (goal.at.returns-clause-held c).After-each_row_stands_once)

pub returns-clause-further : goal.returns-clause-further
returns-clause-further c = further_reports (laws (goal.at.returns-clause-further c).After-each_row_stands_once)

pub returns-clause-unsolicited : goal.returns-clause-unsolicited
returns-clause-unsolicited c = unsolicited_reports (laws (goal.at.returns-clause-unsolicited c).After-each_row_stands_once)

pub returns-clause-first_unsolicited : goal.returns-clause-first_unsolicited
returns-clause-first_unsolicited c = first_unsolicited_reports (laws (goal.at.returns-clause-first_unsolicited c).After-each_row_stands_once)
