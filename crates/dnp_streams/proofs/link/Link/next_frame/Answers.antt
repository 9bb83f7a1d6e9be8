use Rattle.std.proofs.Common.{◌≡◌, ◌∷◌, ◌+◌, List, drop, subst, sym, ap, ◌∙◌}
use Rattle.dnp_linkframe.specs.declared.frame.Frame.{Frame}
use Rattle.dnp_streams.specs.links.Links.{LinkState}
use Rattle.dnp_streams.proofs.link.Link.next_frame.Goals as goal

pub returns-then-self-len-clause-some : goal.returns-then-self-len-clause-some
returns-then-self-len-clause-some c =
    let next = c.self.inside.next in
    let first = subst (λ (fs : List Frame). drop next fs ≡ c.next_of.result.now ∷ drop (next + 1) fs) c.deref.ensures.value c.next_of.ensures in
    (drop (next + 1) c.self.inside.frames.items, sym (ap (λ (l : LinkState). l.waiting) c.self.view_is) ∙ first)
