use Rattle.dnp_pointdb.proofs.Ranges.{carried_exactly}
use Rattle.dnp_pointdb.proofs.laws.readings_are_those_that_objects_carry.Goals as goal

pub returns : goal.returns
returns c = carried_exactly c.objects_have_their_widths.ensures
