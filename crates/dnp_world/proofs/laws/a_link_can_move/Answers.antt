use Rattle.dnp_world.proofs.Round.{a_round}
use Rattle.dnp_world.proofs.laws.a_link_can_move.Goals as goal

pub returns : goal.returns
returns c = a_round
