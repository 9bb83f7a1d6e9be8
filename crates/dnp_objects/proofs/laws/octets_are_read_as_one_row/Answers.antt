use Rattle.dnp_objects.proofs.Given.{row_given, only_row}
use Rattle.dnp_objects.proofs.laws.octets_are_read_as_one_row.Goals as goal

pub returns-clause-read : goal.returns-clause-read
returns-clause-read c = row_given

pub returns-clause-only : goal.returns-clause-only
returns-clause-only c = only_row
