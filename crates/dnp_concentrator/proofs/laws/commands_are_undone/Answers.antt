use Rattle.dnp_concentrator.proofs.MappedBack.{command_redone, command_undone}
use Rattle.dnp_concentrator.proofs.laws.commands_are_undone.Goals as goal

pub returns-clause-down_and_up : goal.returns-clause-down_and_up
returns-clause-down_and_up c = command_redone

pub returns-clause-up_and_down : goal.returns-clause-up_and_down
returns-clause-up_and_down c = command_undone
