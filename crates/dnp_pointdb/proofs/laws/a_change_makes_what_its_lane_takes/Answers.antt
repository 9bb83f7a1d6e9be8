use Rattle.dnp_pointdb.proofs.Carried.{answer_carried}
use Rattle.dnp_pointdb.proofs.laws.a_change_makes_what_its_lane_takes.Goals as goal

pub returns : goal.returns
returns c = answer_carried
