use Rattle.dnp_objects.proofs.Lines.{no_rows}
use Rattle.dnp_objects.proofs.laws.rows_have_their_objects.Goals as goal

pub returns-clause-no_rows : goal.returns-clause-no_rows
returns-clause-no_rows c = no_rows
