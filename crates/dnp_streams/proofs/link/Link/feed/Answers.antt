use Rattle.std.proofs.Common.{◌∙◌, refl}
use Rattle.dnp_streams.proofs.links.Steps.{fed_if}
use Rattle.dnp_streams.proofs.link.Link.feed.Goals as goal

pub returns-clause-fed : goal.returns-clause-fed
returns-clause-fed c =
    fed_if _ _ _ _ _ _ _ _ (c.self.view_is ∙ c.drop_heard.ensures) refl c.self.invariant c.feed.ensures.given c.feed.ensures.carried
