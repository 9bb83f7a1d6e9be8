-- The laws that the body calls are what the lemmas ask for.
use Rattle.std.specs.Prelude.{[]}
use Rattle.dnp_world.proofs.JoinedMaster.{after_asking}
use Rattle.dnp_world.proofs.relay_laws.a_request_goes_by_a_move.Goals as goal
use Rattle.dnp_world.specs.steps.MoveLaws.{LineLaws, MasterLaws}

line_of : goal.After-what_comes_is_taken_or_passed_over → LineLaws
line_of c = record { reopened = c.line_law.ensures.reopened; kept = c.line_law.ensures.kept }

master_of : goal.After-what_comes_is_taken_or_passed_over → MasterLaws
master_of c = record {
  came = c.a_master_takes_by_moves.ensures.came;
  asks = c.a_master_asks_by_a_move.ensures;
  asked = c.an_idle_master_asks.ensures;
  hung_up = c.a_master_opens_and_closes_by_moves.ensures.hung_up;
  ticked = c.a_master_opens_and_closes_by_moves.ensures.ticked;
  takes = c.what_comes_is_taken_or_passed_over.ensures;
  silent_receives = c.a_closed_master_is_silent.ensures.receives;
}

pub returns : goal.returns
returns c = λ s new task octets l low j answer h. after_asking (line_of c) (master_of c) [] s new l task octets low j answer h
