use Rattle.dnp_streams.proofs.links.Steps.{changed_makes}
use Rattle.dnp_streams.proofs.link.Link.change.Goals as goal

pub returns-clause-changed : goal.returns-clause-changed
returns-clause-changed g c = changed_makes _ _ _ _ _ _ _ _ _ _ _ c.self.view_is c.make.ensures.changed
