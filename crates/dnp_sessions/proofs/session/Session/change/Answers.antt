use Rattle.std.proofs.Common.{refl}
use Rattle.dnp_sessions.proofs.Keeping.{keeps_made, noted_more}
use Rattle.dnp_streams.proofs.links.Following.{leads_told}
use Rattle.dnp_sessions.proofs.session.Session.change.Goals as goal

pub invariant_of-self : goal.invariant_of-self
invariant_of-self g c =
    let (reply, is, makes) = c.change-answered.ensures.changed in
    keeps_made _ _ _ _ _ _ _ _ _ _ c.self.view_is makes c.change-answered.ensures.held
    (c.requires.due, leads_told _ _ _ _ _ _ _ reply refl is c.after-self-inside.ensures c.requires.later c.requires.idle)
    (noted_more _ _ _ c.and-self-inside.ensures) c.self.invariant
