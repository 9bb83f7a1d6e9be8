use Rattle.std.proofs.Common.{ℕ, ◌≤◌, min, refl, ap, arith}
use Rattle.dnp_streams.proofs.links.Following.{leads_told}
use Rattle.dnp_streams.specs.links.Deeds.{ways}
use Rattle.dnp_streams.specs.streams.Counts.{most}
use Rattle.dnp_tcp.proofs.Leads.{on_made}
use Rattle.dnp_tcp.proofs.standing.StandingConnection.pass.Goals as goal

pub returns-clause-leads : goal.returns-clause-leads
returns-clause-leads g c honest =
    let S = g.S.Station in
    let w = ways S.opens S.receives S.asking S.life in
    let (reply, is, makes) = c.tick-told.ensures.ticked in
    on_made w _ _ _ _ _ _ _ _ makes (refl, leads_told _ _ _ _ _ _ _ reply refl is c.after-self.ensures (omega arith) c.requires.owing)
    (ap (λ (n : ℕ). min n most) (omega arith)) honest
