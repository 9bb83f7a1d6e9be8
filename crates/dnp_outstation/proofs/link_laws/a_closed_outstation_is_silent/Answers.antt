use Rattle.dnp_outstation.proofs.LinkCalls.{closed_received, closed_ticked, closed_changed}
use Rattle.dnp_outstation.proofs.link_laws.a_closed_outstation_is_silent.Goals as goal

pub returns-clause-received : goal.returns-clause-received
returns-clause-received c = closed_received

pub returns-clause-ticked : goal.returns-clause-ticked
returns-clause-ticked c = closed_ticked

pub returns-clause-changed : goal.returns-clause-changed
returns-clause-changed c = closed_changed
