use Rattle.std.proofs.Common.{ap}
use Rattle.dnp_streams.specs.links.Deeds.{ways}
use Rattle.dnp_nodes.proofs.Outstations.{goes_alone, goes_first}
use Rattle.dnp_nodes.specs.Callees.{has_operated}
use Rattle.dnp_nodes.proofs.callee.Callee.open_on.Goals as goal

pub returns-in-Over-clause-goes : goal.returns-in-Over-clause-goes
returns-in-Over-clause-goes g c =
    let S = g.S.Station in
    let w = ways S.opens S.receives S.asking S.life in
    let (reply, runs) = c.open.ensures.runs in
    (reply, goes_alone w _ _ _ _ _ _ _ _ _ _ (λ none. cc none) runs (ap has_operated c.open.ensures.same))

pub returns-in-Made-clause-goes : goal.returns-in-Made-clause-goes
returns-in-Made-clause-goes g c =
    let S = g.S.Station in
    let w = ways S.opens S.receives S.asking S.life in
    let (reply, runs) = c.open.ensures.runs in
    (reply, goes_first w _ _ _ _ _ _ _ _ _ _ _ _ _ _ c.go_on.ensures.held runs (ap has_operated c.open.ensures.same) c.go_on.ensures.goes)
