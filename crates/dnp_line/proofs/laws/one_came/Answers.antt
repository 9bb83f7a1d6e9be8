use Rattle.dnp_line.proofs.Coming.{ComesTo-push}
use Rattle.dnp_line.proofs.laws.one_came.Goals as goal

pub returns : goal.returns
returns g c came sent rest n member h at = ComesTo-push came sent rest n member h at
