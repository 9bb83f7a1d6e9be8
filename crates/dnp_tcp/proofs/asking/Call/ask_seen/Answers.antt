use Rattle.dnp_tcp.proofs.asking.Call.ask_seen.Goals as goal

pub returns-clause-leads : goal.returns-clause-leads
returns-clause-leads g c honest =
    let S = g.S.Station in
    let ended = c.hung_up.ensures.held honest in
    (_, c.ask-asked.ensures.leads ended, c.idle-idle.ensures, c.hung_up.ensures.hung_up honest)
