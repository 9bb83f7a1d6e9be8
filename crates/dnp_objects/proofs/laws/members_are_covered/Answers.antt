use Rattle.dnp_objects.proofs.Covered.{IsCoveredBy-from_members}
use Rattle.dnp_objects.proofs.laws.members_are_covered.Goals as goal

pub returns : goal.returns
returns g c = IsCoveredBy-from_members
