use Rattle.std.proofs.Common.{◌≡◌, ◌∷◌, ◌+◌, List, drop, subst}
use Rattle.dnp_linkframe.specs.declared.frame.Frame.{Frame}
use Rattle.dnp_streams.proofs.links.Steps.{heard_makes}
use Rattle.dnp_streams.proofs.link.Link.hear.Goals as goal

pub returns-clause-heard : goal.returns-clause-heard
returns-clause-heard g c =
    let next = c.self.inside.next in
    let first = subst (λ (fs : List Frame). drop next fs ≡ c.next_of-frame.result.now ∷ drop (next + 1) fs) c.deref.ensures.value c.next_of-frame.ensures in
    heard_makes _ _ _ _ _ _ _ _ _ _ _ _ c.self.view_is first c.hear-heard.ensures.heard
