use Rattle.std.proofs.Common.{sym, subst}
use Rattle.dnp_streams.proofs.links.Following.{leads_heard}
use Rattle.dnp_streams.specs.links.Deeds.{Came, ways}
use Rattle.dnp_streams.specs.links.Orders.{FollowsDeed, Standing}
use Rattle.dnp_tcp.specs.Connections.{standing_on}
use Rattle.dnp_tcp.proofs.Leads.{on_heard}
use Rattle.dnp_tcp.proofs.standing.StandingConnection.hear.Goals as goal

pub returns-clause-leads : goal.returns-clause-leads
returns-clause-leads g c honest =
    let S = g.S.Station in
    let w = ways S.opens S.receives S.asking S.life in
    let (frame, joined, is, makes) = c.hear-heard.ensures.heard in
    let follows =
    subst (λ (to : Standing). FollowsDeed (standing_on c.args.self.now) (Came c.args.now frame joined) to) (sym c.count.ensures.standing)
    (leads_heard _ _ _ frame joined _ is c.after_frame-self.ensures c.requires.later c.requires.idle) in
    on_heard w _ _ _ _ _ _ frame joined _ _ _ is makes follows c.count.ensures.counted honest
