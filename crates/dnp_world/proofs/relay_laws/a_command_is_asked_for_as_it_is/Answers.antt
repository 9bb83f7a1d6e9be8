-- The laws that the body calls are what the lemmas ask for.
use Rattle.dnp_world.proofs.CommandRequests.{ReadLaws, operate_asks, operate_octets, select_asks, select_octets}
use Rattle.dnp_world.proofs.relay_laws.a_command_is_asked_for_as_it_is.Goals as goal

laws_of : goal.After-what_is_spelled_is_said → ReadLaws
laws_of c = record {
  holds = c.a_header_holds_what_was_put.ensures.order;
  is_read = c.what_is_held_is_read.ensures.command;
  is_said = c.what_is_there_is_said.ensures.command;
  is_request = c.what_is_spelled_is_said.ensures.request;
}

pub returns-clause-selects : goal.returns-clause-selects
returns-clause-selects c = select_octets

pub returns-clause-operates : goal.returns-clause-operates
returns-clause-operates c = operate_octets

pub returns-clause-selected : goal.returns-clause-selected
returns-clause-selected c = select_asks (laws_of c)

pub returns-clause-operated : goal.returns-clause-operated
returns-clause-operated c = operate_asks (laws_of c)
