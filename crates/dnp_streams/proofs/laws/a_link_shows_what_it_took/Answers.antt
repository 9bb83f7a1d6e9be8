use Rattle.dnp_streams.proofs.links.Showing.{shows_taken}
use Rattle.dnp_streams.proofs.laws.a_link_shows_what_it_took.Goals as goal

pub returns-clause-shown : goal.returns-clause-shown
returns-clause-shown c = shows_taken

pub returns-clause-one : goal.returns-clause-one
returns-clause-one c = λ port fragment other history shown others.
    c.history_does_not_matter.ensures.shown port.assembly history.pushed history.pushed fragment other history.stands history.stands
    (shown history.pushed history.stands) (others history.pushed history.stands)
