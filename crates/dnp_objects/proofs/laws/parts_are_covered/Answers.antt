use Rattle.dnp_objects.proofs.Covered.{IsCoveredBy-filter}
use Rattle.dnp_objects.proofs.laws.parts_are_covered.Goals as goal

pub returns-clause-kept : goal.returns-clause-kept
returns-clause-kept g c = IsCoveredBy-filter
