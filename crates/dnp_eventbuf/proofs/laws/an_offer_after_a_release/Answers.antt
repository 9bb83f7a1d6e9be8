use Rattle.dnp_eventbuf.proofs.Released.{offered_after_release}
use Rattle.dnp_eventbuf.proofs.laws.an_offer_after_a_release.Goals as goal

pub returns : goal.returns
returns c = offered_after_release
