use Rattle.dnp_eventbuf.proofs.Conserved.{release_conserves, release_conserves_counts, release_loses_none}
use Rattle.dnp_eventbuf.proofs.laws.a_release_conserves_rows.Goals as goal

pub returns-clause-lists : goal.returns-clause-lists
returns-clause-lists c = release_conserves

pub returns-clause-counts : goal.returns-clause-counts
returns-clause-counts c = release_conserves_counts

pub returns-clause-lost : goal.returns-clause-lost
returns-clause-lost c = release_loses_none
