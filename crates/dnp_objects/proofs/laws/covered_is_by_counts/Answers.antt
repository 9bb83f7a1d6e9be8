use Rattle.dnp_objects.proofs.Covered.{IsCoveredBy-from_counts}
use Rattle.dnp_objects.proofs.laws.covered_is_by_counts.Goals as goal

pub returns : goal.returns
returns g c = λ equal e xs ys. (λ h x. h.at_most (equal x), IsCoveredBy-from_counts equal e xs ys)
