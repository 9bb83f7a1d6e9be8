use Rattle.dnp_line.proofs.Coming.{came_later}
use Rattle.dnp_line.proofs.laws.comes_after_another.Goals as goal

pub returns : goal.returns
returns g c = λ member first later others apart h. came_later member first later others apart h
