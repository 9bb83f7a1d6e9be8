use Rattle.dnp_eventbuf.proofs.Conserved.{with_rows-append, dropped_by-append}
use Rattle.dnp_eventbuf.proofs.laws.two_appends_are_one.Goals as goal

pub returns-clause-rows : goal.returns-clause-rows
returns-clause-rows c = with_rows-append

pub returns-clause-dropped : goal.returns-clause-dropped
returns-clause-dropped c = dropped_by-append
