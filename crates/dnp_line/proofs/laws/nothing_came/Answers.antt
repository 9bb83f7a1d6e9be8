use Rattle.dnp_line.proofs.Coming.{ComesTo-start, ComesTo-gone}
use Rattle.dnp_line.proofs.laws.nothing_came.Goals as goal

pub returns : goal.returns
returns g c = record { all = λ sent. ComesTo-start sent; gone = λ sent. ComesTo-gone sent }
