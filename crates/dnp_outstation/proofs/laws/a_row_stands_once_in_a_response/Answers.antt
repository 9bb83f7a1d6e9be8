use Rattle.dnp_outstation.proofs.Left.{held_next, moves_onward, all_given, given_before}
use Rattle.dnp_outstation.proofs.laws.a_row_stands_once_in_a_response.Goals as goal

pub returns-clause-next : goal.returns-clause-next
returns-clause-next c = held_next

pub returns-clause-onward : goal.returns-clause-onward
returns-clause-onward c = moves_onward

pub returns-clause-given : goal.returns-clause-given
returns-clause-given c = all_given

pub returns-clause-once : goal.returns-clause-once
returns-clause-once c = given_before
