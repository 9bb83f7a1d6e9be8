use Rattle.dnp_appfragment.proofs.Numbers.{octets_all}
use Rattle.dnp_appfragment.proofs.ObjectValues.{command_says, command_said, command_there_in}
use Rattle.dnp_appfragment.proofs.RelativeRows.{any_row_said, any_row_says, any_row_there}
use Rattle.dnp_appfragment.proofs.laws.read.objects_say_rows_and_commands.Goals as goal

pub returns-clause-row : goal.returns-clause-row
returns-clause-row c = λ header k row all. (
  any_row_says c.octets_are_read_as_one_row.ensures.read c.a_relative_row_is_read.ensures.parts header k row (octets_all header.octets all),
  any_row_said c.octets_are_read_as_one_row.ensures.only c.a_relative_row_is_read.ensures.only header k row,
)

pub returns-clause-command : goal.returns-clause-command
returns-clause-command c = λ header k answer all. (
  command_says c.octets_are_read_as_one_command.ensures.read header k answer (octets_all header.octets all),
  command_said c.octets_are_read_as_one_command.ensures.only header k answer,
)

pub returns-clause-row_there : goal.returns-clause-row_there
returns-clause-row_there c = any_row_there

pub returns-clause-command_there : goal.returns-clause-command_there
returns-clause-command_there c = command_there_in
