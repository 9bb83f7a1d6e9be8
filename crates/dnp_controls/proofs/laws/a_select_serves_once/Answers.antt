use Rattle.std.proofs.Common.{refl, ◌∷◌}
use Rattle.dnp_controls.specs.Selecting.{Operating, Forgetting}
use Rattle.dnp_controls.proofs.Answering.{nothing-stands}
use Rattle.dnp_controls.proofs.laws.a_select_serves_once.Goals as goal

pub returns-clause-operated : goal.returns-clause-operated
returns-clause-operated c = λ calls more. nothing-stands (Operating ∷ calls) more refl

pub returns-clause-forgotten : goal.returns-clause-forgotten
returns-clause-forgotten c = λ calls more. nothing-stands (Forgetting ∷ calls) more refl
