use Rattle.std.proofs.Common.{ap, sym, ◌∙◌}
use Rattle.dnp_streams.specs.links.Deeds.{ways}
use Rattle.dnp_nodes.proofs.Outstations.{changed, unchanged}
use Rattle.dnp_nodes.specs.Callees.{changed_in, over_in}
use Rattle.dnp_nodes.proofs.callee.Callee.change.Goals as goal

pub returns-in-Ok-clause-changed : goal.returns-in-Ok-clause-changed
returns-in-Ok-clause-changed g c roomy =
    let S = g.S.Station in
    let w = ways S.opens S.receives S.asking S.life in
    let (reply, is, runs) = c.make.ensures.made in
    let made = sym c.in-Ok.is ∙ is in
    let end = c.finish_if_up.ensures in
    (reply, ap changed_in made, changed w _ _ _ _ _ _ _ _ _ _ _ _ _ end.held runs c.make.ensures.same (ap over_in made) end.up end.link end.hung_up end.want end.operated)

pub returns-in-Err-clause-changed : goal.returns-in-Err-clause-changed
returns-in-Err-clause-changed g c roomy =
    let S = g.S.Station in
    let w = ways S.opens S.receives S.asking S.life in
    let (reply, is, runs) = c.make.ensures.made in
    let made = sym c.in-Err.is ∙ is in
    (reply, ap changed_in made, unchanged w _ _ _ _ _ _ _ _ _ runs c.make.ensures.same (ap over_in made))
