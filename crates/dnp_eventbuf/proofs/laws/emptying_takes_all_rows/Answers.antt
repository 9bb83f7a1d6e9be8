use Rattle.dnp_eventbuf.proofs.Conserved.{no_rows_left, empty_loses_none}
use Rattle.dnp_eventbuf.proofs.laws.emptying_takes_all_rows.Goals as goal

pub returns-clause-rows : goal.returns-clause-rows
returns-clause-rows c = λ s. no_rows_left s.lanes

pub returns-clause-lost : goal.returns-clause-lost
returns-clause-lost c = empty_loses_none
