use Rattle.dnp_world.proofs.OutstationOpenings.{new_shown}
use Rattle.dnp_world.proofs.outstation_laws.a_new_outstation_is_shown.Goals as goal

pub returns : goal.returns
returns c = new_shown
