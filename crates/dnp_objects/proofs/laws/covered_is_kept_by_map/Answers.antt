use Rattle.dnp_objects.proofs.Covered.{IsCoveredBy-map}
use Rattle.dnp_objects.proofs.laws.covered_is_kept_by_map.Goals as goal

pub returns : goal.returns
returns g c = IsCoveredBy-map
