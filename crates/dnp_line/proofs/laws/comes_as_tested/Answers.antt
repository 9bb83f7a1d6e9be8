use Rattle.dnp_line.proofs.Coming.{Comes-test, test-Comes}
use Rattle.dnp_line.proofs.laws.comes_as_tested.Goals as goal

pub returns : goal.returns
returns g c equal decides came sent = (Comes-test equal decides came sent, test-Comes equal decides came sent)
