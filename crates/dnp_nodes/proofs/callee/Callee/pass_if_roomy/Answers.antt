use Rattle.std.proofs.Common.{[], refl}
use Rattle.dnp_streams.specs.links.Deeds.{ways}
use Rattle.dnp_nodes.proofs.Runs.{runs_none}
use Rattle.dnp_nodes.proofs.callee.Callee.pass_if_roomy.Goals as goal

pub returns-then-not-has_room-clause-passes : goal.returns-then-not-has_room-clause-passes
returns-then-not-has_room-clause-passes g c =
    let S = g.S.Station in
    let w = ways S.opens S.receives S.asking S.life in
    let full = c.if-not-has_room.true in
    ([], (λ none room. cc (c.has_room.ensures.1 room, full)), runs_none w _ _ _)

pub returns-in-Over-clause-passes : goal.returns-in-Over-clause-passes
returns-in-Over-clause-passes g c =
    let S = g.S.Station in
    let w = ways S.opens S.receives S.asking S.life in
    let (reply, runs) = c.pass_time.ensures.runs in (_, refl, runs)

pub returns-in-Made-clause-passes : goal.returns-in-Made-clause-passes
returns-in-Made-clause-passes g c =
    let S = g.S.Station in
    let w = ways S.opens S.receives S.asking S.life in
    let (reply, runs) = c.pass_time.ensures.runs in (_, refl, runs)
