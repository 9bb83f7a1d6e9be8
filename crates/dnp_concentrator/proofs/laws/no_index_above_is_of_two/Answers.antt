use Rattle.dnp_concentrator.proofs.Mapping.{injective}
use Rattle.dnp_concentrator.proofs.laws.no_index_above_is_of_two.Goals as goal

pub returns : goal.returns
returns c = injective
