-- The laws that the body calls are what the lemmas ask for.
use Rattle.dnp_world.proofs.CommandRequests.{ReadLaws}
use Rattle.dnp_world.proofs.ControlAnswering.{select_answers}
use Rattle.dnp_world.proofs.control_laws.a_quiet_outstation_answers_a_select.Goals as goal

laws_of : goal.After-what_is_spelled_is_said → ReadLaws
laws_of c = record {
  holds = c.a_header_holds_what_was_put.ensures.order;
  is_read = c.what_is_held_is_read.ensures.command;
  is_said = c.what_is_there_is_said.ensures.command;
  is_request = c.what_is_spelled_is_said.ensures.request;
}

pub returns-clause-answers : goal.returns-clause-answers
returns-clause-answers c = λ s o now seq command low widths can.
    (select_answers (laws_of c) c.what_is_spelled_is_said.ensures.response c.octets_say_their_control_and_function.ensures.control s o now seq command low
    widths can.is_open can.number can.other can.some can.check).answers

pub returns-clause-performs : goal.returns-clause-performs
returns-clause-performs c = λ s o now seq command low widths can.
    (select_answers (laws_of c) c.what_is_spelled_is_said.ensures.response c.octets_say_their_control_and_function.ensures.control s o now seq command low
    widths can.is_open can.number can.other can.some can.check).performs
