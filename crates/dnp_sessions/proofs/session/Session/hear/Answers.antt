use Rattle.std.proofs.Common.{append-nil, sym}
use Rattle.dnp_sessions.proofs.Keeping.{keeps_made}
use Rattle.dnp_streams.proofs.links.Following.{leads_heard}
use Rattle.dnp_sessions.proofs.session.Session.hear.Goals as goal

pub invariant_of-self : goal.invariant_of-self
invariant_of-self g c =
    let (frame, joined, is, makes) = c.hear-heard.ensures.heard in
    keeps_made _ _ _ _ _ _ _ _ _ _ c.self.view_is makes c.hear-heard.ensures.held
    (leads_heard _ _ _ frame joined _ is c.after_frame-self-inside.ensures c.requires.later c.requires.idle) (sym (append-nil _)) c.self.invariant
