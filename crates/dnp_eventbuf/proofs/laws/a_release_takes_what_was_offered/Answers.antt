use Rattle.dnp_eventbuf.proofs.Offers.{release_takes_offered, release_takes_offered_alone}
use Rattle.dnp_eventbuf.proofs.laws.a_release_takes_what_was_offered.Goals as goal

pub returns-clause-from_the_oldest : goal.returns-clause-from_the_oldest
returns-clause-from_the_oldest c =
    release_takes_offered_alone (record { members = c.members_are_covered.ensures; mapped = c.covered_is_kept_by_map.ensures })

pub returns-clause-from_an_id : goal.returns-clause-from_an_id
returns-clause-from_an_id c =
    release_takes_offered (record { members = c.members_are_covered.ensures; mapped = c.covered_is_kept_by_map.ensures })
