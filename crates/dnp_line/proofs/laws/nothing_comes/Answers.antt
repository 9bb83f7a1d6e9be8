use Rattle.dnp_line.proofs.Coming.{Comes-nil}
use Rattle.dnp_line.proofs.laws.nothing_comes.Goals as goal

pub returns : goal.returns
returns g c = record { of_any = λ sent. tt; of_nothing = λ came h. Comes-nil came h }
