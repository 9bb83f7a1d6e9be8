use Rattle.dnp_line.proofs.Coming.{ComesTo-drop}
use Rattle.dnp_line.proofs.laws.some_lost.Goals as goal

pub returns : goal.returns
returns g c came sent rest n h = ComesTo-drop came sent rest n h
