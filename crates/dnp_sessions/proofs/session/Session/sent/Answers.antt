use Rattle.std.proofs.Common.{List, ℕ, ◌++◌, take, ap, ◌∙◌}
use Rattle.dnp_sessions.specs.Sessions.{noted_in}
use Rattle.dnp_sessions.proofs.Keeping.{keeps_sent}
use Rattle.dnp_sessions.proofs.session.Session.sent.Goals as goal

pub invariant_of-self : goal.invariant_of-self
invariant_of-self g c =
    let octets = ap (λ (pending : List ℕ). noted_in c.self.inside.handed.items ++ take c.args.count pending) c.output.ensures in
    keeps_sent _ _ _ _ _ _ _ c.sent.ensures (c.note.ensures ∙ octets) c.self.invariant
