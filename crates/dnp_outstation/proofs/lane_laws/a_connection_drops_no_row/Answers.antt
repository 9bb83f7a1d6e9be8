use Rattle.dnp_outstation.proofs.KeptPoints.{opened_keeps, received_keeps, ticked_keeps}
use Rattle.dnp_outstation.proofs.lane_laws.a_connection_drops_no_row.Goals as goal

pub returns-clause-opened : goal.returns-clause-opened
returns-clause-opened c = λ s now. (opened_keeps s now).none

pub returns-clause-received : goal.returns-clause-received
returns-clause-received c = λ s o now octets. (received_keeps s o now octets).none

pub returns-clause-ticked : goal.returns-clause-ticked
returns-clause-ticked c = λ s now. (ticked_keeps s now).none
