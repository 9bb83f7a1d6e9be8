use Rattle.dnp_streams.specs.links.Deeds.{ways}
use Rattle.dnp_nodes.proofs.Masters.{goes_then}
use Rattle.dnp_nodes.proofs.caller.Caller.tick_on.Goals as goal

pub returns-in-Made-clause-passes : goal.returns-in-Made-clause-passes
returns-in-Made-clause-passes g c in_time roomy =
    let S = g.S.Station in
    let w = ways S.opens S.receives S.asking S.life in
    let (reply, goes) = c.pass_time.ensures.goes in
    (reply, goes_then w _ _ _ _ _ _ _ _ _ _ _ _ _ c.go_on.ensures.held c.pass_time.ensures.basis goes c.go_on.ensures.goes)
