use Rattle.dnp_appfragment.proofs.ObjectValues.{command_said}
use Rattle.dnp_appfragment.proofs.RelativeRows.{any_row_said}
use Rattle.dnp_appfragment.proofs.laws.read.what_is_there_is_said.Goals as goal

pub returns-clause-row : goal.returns-clause-row
returns-clause-row c = any_row_said c.octets_are_read_as_one_row.ensures.only c.a_relative_row_is_read.ensures.only

pub returns-clause-command : goal.returns-clause-command
returns-clause-command c = command_said c.octets_are_read_as_one_command.ensures.only
