use Rattle.std.proofs.Common.{append-nil, sym, ap, ◌∙◌}
use Rattle.dnp_streams.specs.links.Orders.{standing}
use Rattle.dnp_sessions.proofs.Keeping.{keeps_made}
use Rattle.dnp_sessions.proofs.session.Session.ask.Goals as goal

pub invariant_of-self : goal.invariant_of-self
invariant_of-self g c =
    let (reply, is, makes) = c.ask.ensures.asked in
    let stays = ap (λ s. standing s c.args.now) (ap (λ v. v.stands.stage) c.self.view_is ∙ c.requires.idle) in
    keeps_made _ _ _ _ _ _ _ _ _ _ c.self.view_is makes c.ask.ensures.held
    (record { later = c.requires.later; stage = c.requires.idle; after = stays }) (sym (append-nil _)) c.self.invariant
