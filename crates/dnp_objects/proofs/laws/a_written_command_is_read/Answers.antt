use Rattle.dnp_objects.proofs.Lines.{command_read, one_object}
use Rattle.dnp_objects.proofs.laws.a_written_command_is_read.Goals as goal

pub returns-clause-read : goal.returns-clause-read
returns-clause-read c = command_read

pub returns-clause-one_object : goal.returns-clause-one_object
returns-clause-one_object c = one_object
