use Rattle.dnp_concentrator.proofs.Mapping.{in_range}
use Rattle.dnp_concentrator.proofs.laws.indices_above_are_in_range.Goals as goal

pub returns : goal.returns
returns c = in_range
