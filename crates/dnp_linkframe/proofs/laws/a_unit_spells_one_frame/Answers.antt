use Rattle.dnp_linkframe.proofs.Units.{one_frame}
use Rattle.dnp_linkframe.proofs.laws.a_unit_spells_one_frame.Goals as goal

pub returns : goal.returns
returns c = one_frame
