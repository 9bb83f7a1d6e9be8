use Rattle.dnp_objects.proofs.EqualityTests.{IsEqualityTest-row_eq, IsEqualityTest-command_eq, IsEqualityTest-pair_eq}
use Rattle.dnp_objects.proofs.laws.equality_is_decided.Goals as goal

pub returns-clause-rows : goal.returns-clause-rows
returns-clause-rows g c = IsEqualityTest-row_eq

pub returns-clause-commands : goal.returns-clause-commands
returns-clause-commands g c = IsEqualityTest-command_eq

pub returns-clause-pairs : goal.returns-clause-pairs
returns-clause-pairs g c = IsEqualityTest-pair_eq
