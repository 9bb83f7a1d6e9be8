use Rattle.dnp_line.proofs.Coming.{Comes-trans}
use Rattle.dnp_line.proofs.laws.comes_on.Goals as goal

pub returns : goal.returns
returns g c came sent first h k = Comes-trans came sent first h k
