use Rattle.dnp_master.proofs.Reported.{taken_reported}
use Rattle.dnp_master.proofs.laws.events_taken_are_of_the_plan.Goals as goal

pub returns : goal.returns
returns c = taken_reported
