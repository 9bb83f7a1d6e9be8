use Rattle.std.proofs.lemmas.List.Elements.{recursion_from_All}
use Rattle.dnp_outstation.specs.Forms.{CanGo}
use Rattle.dnp_outstation.proofs.ItemsOf.{held_stand}
use Rattle.dnp_outstation.proofs.Moves.{goes_on_behind_some}
use Rattle.dnp_outstation.proofs.Reported.{rows_are_said, response_is}
use Rattle.dnp_outstation.proofs.Written.{PutLaws, items_written}
use Rattle.dnp_outstation.proofs.laws.octets_say_what_is_held.Goals.{After-what_is_spelled_is_said}
use Rattle.dnp_outstation.proofs.laws.octets_say_what_is_held.Goals as goal

laws : After-what_is_spelled_is_said → PutLaws
laws c = record {
  event_stands = c.what_is_put_stands_in_a_response.ensures.event;
  point_stands = c.what_is_put_stands_in_a_response.ensures.point;
  object_stands = c.what_is_put_stands_in_a_response.ensures.object;
  event_holds = c.a_header_holds_what_was_put.ensures.event;
  point_holds = c.a_header_holds_what_was_put.ensures.point;
  common_stands = c.what_is_put_stands_in_a_response.ensures.common;
  relative_stands = c.what_is_put_stands_in_a_response.ensures.relative;
  header_stands = c.what_is_put_stands_in_a_response.ensures.header;
  relative_holds = c.a_header_holds_what_was_put.ensures.relative;
  common_held = c.what_is_put_is_held.ensures.common;
  time_put = c.a_common_time_stays.ensures.put;
  object_held = c.what_is_put_is_held.ensures.object;
}

pub returns-clause-held : goal.returns-clause-held
returns-clause-held c = λ held can fit.
    (items_written (laws (goal.at.returns-clause-held c).After-what_is_spelled_is_said) held (recursion_from_All CanGo held can) fit).hold

pub returns-clause-response : goal.returns-clause-response
returns-clause-response c =
    response_is (laws (goal.at.returns-clause-response c).After-what_is_spelled_is_said) c.what_is_spelled_is_said.ensures.response

pub returns-clause-rows : goal.returns-clause-rows
returns-clause-rows c =
    rows_are_said (laws (goal.at.returns-clause-rows c).After-what_is_spelled_is_said) (record {
      events = λ h objects k row holds event at.
          c.what_is_there_is_said.ensures.row h k row (c.what_is_held_is_read.ensures.event h objects k row holds event at);
      relatives = λ h objects k common row holds timed there fits at.
          c.what_is_there_is_said.ensures.row h k row (c.what_is_held_is_read.ensures.relative h objects k common row holds timed there fits at);
    })

pub returns-clause-written : goal.returns-clause-written
returns-clause-written c = held_stand

pub returns-clause-some : goal.returns-clause-some
returns-clause-some c = goes_on_behind_some (laws (goal.at.returns-clause-some c).After-what_is_spelled_is_said)
