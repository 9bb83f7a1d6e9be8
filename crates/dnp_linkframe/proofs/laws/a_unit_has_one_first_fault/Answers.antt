use Rattle.dnp_linkframe.proofs.Units.{one_first_fault}
use Rattle.dnp_linkframe.proofs.laws.a_unit_has_one_first_fault.Goals as goal

pub returns : goal.returns
returns c = one_first_fault
