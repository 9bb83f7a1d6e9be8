use Rattle.dnp_sessions.proofs.Keeping.{keeps_fed}
use Rattle.dnp_sessions.proofs.session.Session.feed.Goals as goal

pub invariant_of-self-2 : goal.invariant_of-self-2
invariant_of-self-2 g c = keeps_fed _ _ _ _ _ _ _ c.in_ok-feed.ensures.fed c.note.ensures c.self.invariant
