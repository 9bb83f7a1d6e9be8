use Rattle.dnp_concentrator.proofs.MappedBack.{row_undone}
use Rattle.dnp_concentrator.proofs.laws.rows_above_are_undone.Goals as goal

pub returns : goal.returns
returns c = row_undone
