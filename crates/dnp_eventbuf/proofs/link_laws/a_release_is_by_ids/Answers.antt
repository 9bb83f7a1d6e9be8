use Rattle.dnp_eventbuf.proofs.BufferedCalls.{release_seen}
use Rattle.dnp_eventbuf.proofs.link_laws.a_release_is_by_ids.Goals as goal

pub returns-clause-left : goal.returns-clause-left
returns-clause-left c = λ s upto long. (release_seen s upto long).0

pub returns-clause-given : goal.returns-clause-given
returns-clause-given c = λ s upto long. (release_seen s upto long).1
