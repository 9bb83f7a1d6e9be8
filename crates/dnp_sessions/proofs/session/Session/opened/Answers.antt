use Rattle.std.proofs.Common.{append-nil, refl, sym}
use Rattle.dnp_sessions.proofs.Keeping.{keeps_made}
use Rattle.dnp_streams.proofs.links.Following.{leads_told}
use Rattle.dnp_sessions.proofs.session.Session.opened.Goals as goal

pub invariant_of-self : goal.invariant_of-self
invariant_of-self g c =
    let (reply, is, makes) = c.opened-answered.ensures.opened in
    keeps_made _ _ _ _ _ _ _ _ _ _ c.self.view_is makes c.opened-answered.ensures.held
    (leads_told _ _ _ _ _ _ _ reply refl is c.after-self-inside.ensures c.requires.later c.requires.first) (sym (append-nil _)) c.self.invariant
