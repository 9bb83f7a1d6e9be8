use Rattle.dnp_line.proofs.Coming.{Comes-members}
use Rattle.dnp_line.proofs.laws.members_were_sent.Goals as goal

pub returns : goal.returns
returns g c came sent h = Comes-members came sent h
