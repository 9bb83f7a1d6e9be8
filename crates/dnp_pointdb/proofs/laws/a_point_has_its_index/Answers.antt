use Rattle.dnp_pointdb.proofs.Sound.{point_at_index}
use Rattle.dnp_pointdb.proofs.laws.a_point_has_its_index.Goals as goal

pub returns : goal.returns
returns c = point_at_index
