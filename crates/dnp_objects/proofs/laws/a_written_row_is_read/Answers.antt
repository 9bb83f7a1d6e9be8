use Rattle.dnp_objects.proofs.Lines.{written_only}
use Rattle.dnp_objects.proofs.laws.a_written_row_is_read.Goals as goal

pub returns-clause-written_only : goal.returns-clause-written_only
returns-clause-written_only c = written_only
