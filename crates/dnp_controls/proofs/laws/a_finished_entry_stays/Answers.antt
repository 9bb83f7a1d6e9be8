use Rattle.dnp_controls.proofs.Moving.{finished-stays}
use Rattle.dnp_controls.proofs.laws.a_finished_entry_stays.Goals as goal

pub returns : goal.returns
returns c = finished-stays
