use Rattle.dnp_objects.proofs.Given.{fills}
use Rattle.dnp_objects.proofs.laws.a_written_row_fills_its_object.Goals as goal

pub returns : goal.returns
returns c = fills
