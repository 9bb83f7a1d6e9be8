use Rattle.dnp_streams.proofs.links.Steps.{opened_makes}
use Rattle.dnp_streams.proofs.link.Link.opened.Goals as goal

pub returns-clause-opened : goal.returns-clause-opened
returns-clause-opened g c = opened_makes _ _ _ _ _ _ _ _ _ _ c.self.view_is c.open.ensures.opened
