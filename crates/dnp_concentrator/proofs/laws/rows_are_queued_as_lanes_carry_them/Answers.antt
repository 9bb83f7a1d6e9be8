use Rattle.dnp_concentrator.proofs.Queued.{all_carried}
use Rattle.dnp_concentrator.proofs.laws.rows_are_queued_as_lanes_carry_them.Goals as goal

pub returns : goal.returns
returns c = all_carried
