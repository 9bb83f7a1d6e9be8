use Rattle.dnp_streams.specs.links.Deeds.{ways}
use Rattle.dnp_tcp.proofs.Leads.{leads_then}
use Rattle.dnp_tcp.proofs.talk.Talk.tick_on.Goals as goal

pub returns-clause-leads : goal.returns-clause-leads
returns-clause-leads g c honest =
    let S = g.S.Station in
    let w = ways S.opens S.receives S.asking S.life in
    leads_then w _ _ _ (c.tick-is_closed.ensures.leads (c.go_on.ensures.held honest)) (c.go_on.ensures.leads honest)
