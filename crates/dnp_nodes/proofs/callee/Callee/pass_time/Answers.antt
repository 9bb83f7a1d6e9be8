use Rattle.dnp_streams.specs.links.Deeds.{ways}
use Rattle.dnp_nodes.proofs.Runs.{runs_made}
use Rattle.dnp_nodes.proofs.callee.Callee.pass_time.Goals as goal

pub returns-clause-runs : goal.returns-clause-runs
returns-clause-runs g c =
    let S = g.S.Station in
    let w = ways S.opens S.receives S.asking S.life in
    let (reply, is, makes) = c.tick-told.ensures.ticked in
    (reply, runs_made w _ _ _ _ _ _ makes)
