use Rattle.std.proofs.Common.{append-nil, refl, sym, ap, arith}
use Rattle.dnp_sessions.proofs.Keeping.{keeps_made}
use Rattle.dnp_streams.proofs.links.Following.{leads_told}
use Rattle.dnp_sessions.proofs.session.Session.tick.Goals as goal

pub invariant_of-self : goal.invariant_of-self
invariant_of-self g c =
    let (reply, is, makes) = c.tick-answered.ensures.ticked in
    let at = ap (λ v. v.stands.now) c.self.view_is in
    keeps_made _ _ _ _ _ _ _ _ _ _ c.self.view_is makes c.tick-answered.ensures.held
    (at, leads_told _ _ _ _ _ _ _ reply refl is c.after-self-inside.ensures (omega (arith, at)) c.requires.owing) (sym (append-nil _)) c.self.invariant
