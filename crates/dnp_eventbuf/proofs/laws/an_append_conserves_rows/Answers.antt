use Rattle.dnp_eventbuf.proofs.Conserved.{append_conserves, append_conserves_counts, append_counts_lost}
use Rattle.dnp_eventbuf.proofs.Drops.{IsRoomy-from_sound}
use Rattle.dnp_eventbuf.proofs.laws.an_append_conserves_rows.Goals as goal

pub returns-clause-lists : goal.returns-clause-lists
returns-clause-lists c = λ s rows sound. append_conserves s rows sound.nine

pub returns-clause-counts : goal.returns-clause-counts
returns-clause-counts c = λ s rows test sound. append_conserves_counts s rows test sound.nine

pub returns-clause-lost : goal.returns-clause-lost
returns-clause-lost c = λ s rows sound. append_counts_lost s rows (IsRoomy-from_sound s sound)
