use Rattle.dnp_line.proofs.Coming.{ComesTo-clear}
use Rattle.dnp_line.proofs.laws.cleared.Goals as goal

pub returns : goal.returns
returns g c came sent rest h = ComesTo-clear came sent rest h
