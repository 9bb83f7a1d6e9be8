use Rattle.dnp_controls.proofs.Performing.{performed-are_accepted}
use Rattle.dnp_controls.proofs.laws.performed_commands_are_the_accepted_ones.Goals as goal

pub returns : goal.returns
returns c = performed-are_accepted
