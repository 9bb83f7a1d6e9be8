-- The laws that the body calls are what the lemmas ask for.
use Rattle.std.proofs.Common.{refl}
use Rattle.dnp_world.proofs.AboveSteps.{ComingLaws, performs_as}
use Rattle.dnp_world.proofs.ControlArrivals.{ControlLaws}
use Rattle.dnp_world.proofs.ControlsClean.{CleanLaws}
use Rattle.dnp_world.proofs.ControlsMoved.{clean_moves, refused_rests}
use Rattle.dnp_world.proofs.control_laws.a_clean_control_operates.Goals as goal

coming_of : goal.After-commands_are_undone → ComingLaws
coming_of c = record {
  says = c.each_case_says_what_came.ensures;
  solicited = c.a_confirm_releases_what_its_fragment_reported.ensures.solicited;
  unsolicited = c.a_confirm_releases_what_its_fragment_reported.ensures.unsolicited;
  others = c.a_confirm_releases_what_its_fragment_reported.ensures.others;
  lost = c.a_release_conserves_rows.ensures.lost;
  only = c.commands_are_performed_as_they_are_asked.ensures.only;
  again = c.a_repeated_request_executes_nothing.ensures.again;
  undone = c.commands_are_undone.ensures.down_and_up;
}

controls_of : goal.After-commands_are_undone → ControlLaws
controls_of c = record {
  reads = record {
    holds = c.a_header_holds_what_was_put.ensures.order;
    is_read = c.what_is_held_is_read.ensures.command;
    is_said = c.what_is_there_is_said.ensures.command;
    is_request = c.what_is_spelled_is_said.ensures.request;
  };
  response = c.what_is_spelled_is_said.ensures.response;
  is_control = c.octets_say_their_control_and_function.ensures.control;
  same = λ command. (c.equality_is_decided.ensures.commands.decides command command).1 refl;
}

laws_of : goal.After-commands_are_undone → CleanLaws
laws_of c = record {
  controls = controls_of c;
  decides = c.equality_is_decided.ensures.commands;
  lines = record {
    quiet = c.what_is_sent_arrives.ensures.quiet;
    asked = c.what_is_sent_arrives.ensures.asked;
    down = c.what_is_sent_arrives.ensures.down;
    up = c.what_is_sent_arrives.ensures.up;
  };
  performs = performs_as (coming_of c);
  sound = c.ids_go_on.ensures.sound;
}

pub returns-clause-moves : goal.returns-clause-moves
returns-clause-moves c = clean_moves (laws_of c)

pub returns-clause-rests : goal.returns-clause-rests
returns-clause-rests c = refused_rests (laws_of c)
