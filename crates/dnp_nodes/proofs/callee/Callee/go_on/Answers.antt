use Rattle.std.proofs.Common.{ap}
use Rattle.dnp_streams.specs.links.Deeds.{ways}
use Rattle.dnp_nodes.proofs.Outstations.{goes_over, goes_on}
use Rattle.dnp_nodes.specs.Callees.{has_operated}
use Rattle.dnp_nodes.proofs.callee.Callee.go_on.Goals as goal

pub returns-in-Some-clause-goes : goal.returns-in-Some-clause-goes
returns-in-Some-clause-goes g c =
    let S = g.S.Station in
    let w = ways S.opens S.receives S.asking S.life in
    goes_over w _ _ _ _ _ _ _ _ _ (λ none. cc none) c.hear_all.ensures.hears

pub returns-in-None-clause-goes : goal.returns-in-None-clause-goes
returns-in-None-clause-goes g c =
    let S = g.S.Station in
    let w = ways S.opens S.receives S.asking S.life in
    let (time, passes, runs) = c.pass_if_roomy.ensures.passes in
    goes_on w _ _ _ _ _ _ _ _ _ _ _ _ _ time c.pass_if_roomy.ensures.held c.hear_all.ensures.hears passes runs (ap has_operated c.pass_if_roomy.ensures.same)
