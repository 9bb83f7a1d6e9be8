use Rattle.dnp_concentrator.proofs.Mapping.{up_and_down, down_and_up}
use Rattle.dnp_concentrator.proofs.laws.each_direction_undoes_the_other.Goals as goal

pub returns-clause-up_and_down : goal.returns-clause-up_and_down
returns-clause-up_and_down c = up_and_down

pub returns-clause-down_and_up : goal.returns-clause-down_and_up
returns-clause-down_and_up c = down_and_up
