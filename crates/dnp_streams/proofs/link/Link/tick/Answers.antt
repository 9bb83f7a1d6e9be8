use Rattle.dnp_streams.proofs.links.Steps.{ticked_makes}
use Rattle.dnp_streams.proofs.link.Link.tick.Goals as goal

pub returns-clause-ticked : goal.returns-clause-ticked
returns-clause-ticked g c = ticked_makes _ _ _ _ _ _ _ _ _ _ c.self.view_is c.pass_time.ensures.ticked
