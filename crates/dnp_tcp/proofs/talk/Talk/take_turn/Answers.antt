use Rattle.dnp_streams.specs.links.Deeds.{ways}
use Rattle.dnp_tcp.proofs.Leads.{leads_then}
use Rattle.dnp_tcp.proofs.talk.Talk.take_turn.Goals as goal

pub returns-clause-leads : goal.returns-clause-leads
returns-clause-leads g c honest =
    let S = g.S.Station in
    let w = ways S.opens S.receives S.asking S.life in
    leads_then w _ _ _ (c.hear_all.ensures.leads (c.tick_on.ensures.held honest)) (c.tick_on.ensures.leads honest)
