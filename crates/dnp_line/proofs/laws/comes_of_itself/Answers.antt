use Rattle.dnp_line.proofs.Coming.{Comes-refl}
use Rattle.dnp_line.proofs.laws.comes_of_itself.Goals as goal

pub returns : goal.returns
returns g c sent = Comes-refl sent
