use Rattle.dnp_concentrator.proofs.Awaiting.{asking-awaits, received-awaits, relayed-awaits, ticked-awaits}
use Rattle.dnp_concentrator.proofs.relay_laws.a_control_awaits_its_own_answer.Goals as goal

pub returns-clause-new : goal.returns-clause-new
returns-clause-new c = λ plan times was_open. tt

pub returns-clause-opened : goal.returns-clause-opened
returns-clause-opened c = λ r was_open. tt

pub returns-clause-hung_up : goal.returns-clause-hung_up
returns-clause-hung_up c = λ r was_open. tt

pub returns-clause-ticked : goal.returns-clause-ticked
returns-clause-ticked c = ticked-awaits

pub returns-clause-asked : goal.returns-clause-asked
returns-clause-asked c = asking-awaits

pub returns-clause-relayed : goal.returns-clause-relayed
returns-clause-relayed c = relayed-awaits

pub returns-clause-received : goal.returns-clause-received
returns-clause-received c = received-awaits
