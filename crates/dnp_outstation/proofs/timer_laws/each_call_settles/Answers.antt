use Rattle.dnp_outstation.proofs.Deadlines.{closed_settled, opened_settles, received_settles, ticked_settles, changed_settles}
use Rattle.dnp_outstation.proofs.timer_laws.each_call_settles.Goals as goal

pub returns-clause-closed : goal.returns-clause-closed
returns-clause-closed c = closed_settled

pub returns-clause-opened : goal.returns-clause-opened
returns-clause-opened c = opened_settles

pub returns-clause-received : goal.returns-clause-received
returns-clause-received c = received_settles

pub returns-clause-ticked : goal.returns-clause-ticked
returns-clause-ticked c = ticked_settles

pub returns-clause-changed : goal.returns-clause-changed
returns-clause-changed c = changed_settles
