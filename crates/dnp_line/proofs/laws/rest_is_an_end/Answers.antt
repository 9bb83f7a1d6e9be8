use Rattle.dnp_line.proofs.Coming.{ComesTo-end}
use Rattle.dnp_line.proofs.laws.rest_is_an_end.Goals as goal

pub returns : goal.returns
returns g c came sent rest h = ComesTo-end came sent rest h
