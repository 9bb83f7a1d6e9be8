-- The laws that the body calls are what the lemmas ask for.
use Rattle.std.specs.Prelude.{List, ◌++◌, take}
use Rattle.dnp_objects.specs.declared.row.Row.{Row}
use Rattle.dnp_eventbuf.specs.EventBuffer.{arriving, dropped_by}
use Rattle.dnp_world.specs.Joined.{rows_made_by, with_others_rows}
use Rattle.dnp_world.proofs.JoinedConclusions.{LinkLaws, law_of, kept_by, grown_by}
use Rattle.dnp_world.proofs.joined_laws.the_law_of_one_link.Given as given
use Rattle.dnp_world.proofs.joined_laws.the_law_of_one_link.Goals as goal

laws_of : (g : given.Over) → goal.After-link_law g → LinkLaws
laws_of g c = record { covered = c.link_law.ensures.covered; stood = c.link_law.ensures.stood; whole = c.link_law.ensures.whole }

pub returns-clause-law : goal.returns-clause-law
returns-clause-law g c = λ others s h. law_of (laws_of g c) others s h

pub returns-clause-runs : goal.returns-clause-runs
returns-clause-runs g c = λ others s new events h ran.
    let came : List Row = rows_made_by s.outstation.core.points events in
    let f = c.events_are_moves.ensures.runs others s new events h.link h.stands h.joined ran in
    (kept_by others came s.outstation.performed h.link new h.stands f, grown_by (laws_of g c) others others came s new h.link h.stands h.joined f)

pub returns-clause-stops : goal.returns-clause-stops
returns-clause-stops g c = λ others s new events done h stopped.
    let came : List Row = rows_made_by s.outstation.core.points (take done events) in
    let f = c.events_are_moves.ensures.stops others s new events done h.link h.stands h.joined stopped in
    (kept_by others came s.outstation.performed h.link new h.stands f, grown_by (laws_of g c) others others came s new h.link h.stands h.joined f)

pub returns-clause-appended : goal.returns-clause-appended
returns-clause-appended g c = λ others s rows carried room h.
    let left : List Row = others ++ dropped_by s.outstation.lanes rows in
    let f = c.appends_by_others_are_moves.ensures.appended others s rows h.link carried room h.joined in (
      kept_by left (arriving rows) s.outstation.performed h.link (with_others_rows rows s) h.stands f,
      grown_by (laws_of g c) others left (arriving rows) s (with_others_rows rows s) h.link h.stands h.joined f,
    )

pub returns-clause-sink : goal.returns-clause-sink
returns-clause-sink g c =
    λ others s sink h. record { link = h.link; stands = h.stands; joined = c.appends_by_others_are_moves.ensures.sink others s sink h.link h.joined }
