use Rattle.dnp_line.proofs.Coming.{ComesTo-some, ComesTo-comes}
use Rattle.dnp_line.proofs.laws.comes_to_a_rest.Goals as goal

pub returns : goal.returns
returns g c came sent = (ComesTo-some came sent, λ h. ComesTo-comes came sent h.0 h.1)
