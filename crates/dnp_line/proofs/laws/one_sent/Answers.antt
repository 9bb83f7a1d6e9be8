use Rattle.dnp_line.proofs.Coming.{ComesTo-behind}
use Rattle.dnp_line.proofs.laws.one_sent.Goals as goal
use Rattle.std.proofs.Common.{[], ◌∷◌}

pub returns : goal.returns
returns g c came sent rest member h = ComesTo-behind came sent rest (member ∷ []) h
