use Rattle.dnp_sessions.proofs.Keeping.{keeps_waited}
use Rattle.dnp_sessions.proofs.session.Session.end_wait.Goals as goal

pub invariant_of-self : goal.invariant_of-self
invariant_of-self g c = keeps_waited _ _ _ _ _ _ c.self.view_is c.requires.idle c.requires.later c.self.invariant
