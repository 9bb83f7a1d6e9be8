use Rattle.dnp_outstation.proofs.LinkPerforms.{again_executes_nothing, last_performs_none}
use Rattle.dnp_outstation.proofs.link_laws.a_repeated_request_executes_nothing.Goals as goal

pub returns-clause-again : goal.returns-clause-again
returns-clause-again c = again_executes_nothing

pub returns-clause-performs : goal.returns-clause-performs
returns-clause-performs c = last_performs_none
