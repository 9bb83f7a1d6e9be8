use Rattle.dnp_linkframe.proofs.Units.{no_fault}
use Rattle.dnp_linkframe.proofs.laws.a_spelling_has_no_fault.Goals as goal

pub returns : goal.returns
returns c = no_fault
