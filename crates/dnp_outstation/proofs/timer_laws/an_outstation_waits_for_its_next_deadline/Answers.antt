use Rattle.dnp_outstation.proofs.Deadlines.{tick_before, tick_at}
use Rattle.dnp_outstation.proofs.timer_laws.an_outstation_waits_for_its_next_deadline.Goals as goal

pub returns-clause-waits : goal.returns-clause-waits
returns-clause-waits c = tick_before

pub returns-clause-ends : goal.returns-clause-ends
returns-clause-ends c = tick_at
