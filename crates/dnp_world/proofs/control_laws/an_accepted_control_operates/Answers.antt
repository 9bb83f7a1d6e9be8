-- The laws that the body calls are what the lemmas ask for.
use Rattle.std.proofs.Common.{refl}
use Rattle.dnp_world.proofs.ControlAccepts.{operate_goes, select_goes}
use Rattle.dnp_world.proofs.ControlArrivals.{ControlLaws}
use Rattle.dnp_world.proofs.control_laws.an_accepted_control_operates.Goals as goal

laws_of : goal.After-equality_is_decided → ControlLaws
laws_of c = record {
  reads = record {
    holds = c.a_header_holds_what_was_put.ensures.order;
    is_read = c.what_is_held_is_read.ensures.command;
    is_said = c.what_is_there_is_said.ensures.command;
    is_request = c.what_is_spelled_is_said.ensures.request;
  };
  response = c.what_is_spelled_is_said.ensures.response;
  is_control = c.octets_say_their_control_and_function.ensures.control;
  same = λ command. (c.equality_is_decided.ensures.commands.decides command command).1 refl;
}

pub returns-clause-selects : goal.returns-clause-selects
returns-clause-selects c = λ target now check entry old selected commands low can g.
    let began = select_goes (laws_of c) target now check entry old selected commands low can g in (began.none, began.comes)

pub returns-clause-operates : goal.returns-clause-operates
returns-clause-operates c = operate_goes (laws_of c)
