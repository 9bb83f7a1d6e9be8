use Rattle.dnp_streams.specs.links.Deeds.{ways}
use Rattle.dnp_nodes.proofs.Masters.{goes_none}
use Rattle.dnp_nodes.proofs.caller.Caller.step.Goals as goal

pub returns-in-None-clause-goes : goal.returns-in-None-clause-goes
returns-in-None-clause-goes g c =
    let S = g.S.Station in
    let w = ways S.opens S.receives S.asking S.life in
    goes_none w _ _ _ _
