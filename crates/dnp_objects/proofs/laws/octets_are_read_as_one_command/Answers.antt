use Rattle.dnp_objects.proofs.Given.{command_given, only_command}
use Rattle.dnp_objects.proofs.laws.octets_are_read_as_one_command.Goals as goal

pub returns-clause-read : goal.returns-clause-read
returns-clause-read c = command_given

pub returns-clause-only : goal.returns-clause-only
returns-clause-only c = only_command
