use Rattle.dnp_streams.specs.links.Deeds.{ways}
use Rattle.dnp_nodes.proofs.Masters.{goes_then}
use Rattle.dnp_nodes.proofs.caller.Caller.open_on.Goals as goal

pub returns-in-Made-clause-goes : goal.returns-in-Made-clause-goes
returns-in-Made-clause-goes g c =
    let S = g.S.Station in
    let w = ways S.opens S.receives S.asking S.life in
    let (reply, goes) = c.open.ensures.goes in
    (reply, goes_then w _ _ _ _ _ _ _ _ _ _ _ _ _ c.go_on.ensures.held c.open.ensures.basis goes c.go_on.ensures.goes)
