use Rattle.dnp_world.proofs.JoinedRuns.{append_follows, listed}
use Rattle.dnp_world.proofs.JoinedSteps.{with_lists}
use Rattle.dnp_world.proofs.joined_laws.appends_by_others_are_moves.Goals as goal

pub returns-clause-appended : goal.returns-clause-appended
returns-clause-appended g c others s rows l carried room j =
    append_follows others s l rows j (c.an_append_is_moves.ensures s.outstation rows l carried room j.outstation)

pub returns-clause-listed : goal.returns-clause-listed
returns-clause-listed g c = listed

pub returns-clause-sink : goal.returns-clause-sink
returns-clause-sink g c others s sink l j = with_lists others others s l sink s.now s.taken s.released s.left j j.taken j.released j.left
