use Rattle.std.proofs.Common.{ap, ◌∙◌}
use Rattle.dnp_streams.specs.links.Deeds.{ways}
use Rattle.dnp_nodes.proofs.Outstations.{called, cut_if}
use Rattle.dnp_nodes.specs.Callees.{over_budget}
use Rattle.dnp_nodes.proofs.callee.Callee.tick.Goals as goal

pub returns-clause-over : goal.returns-clause-over
returns-clause-over g c up =
    let S = g.S.Station in
    let w = ways S.opens S.receives S.asking S.life in
    let end = c.finish.ensures in
    cut_if _ _ _ _ _ _ _ _ _ (over_budget c.args.self.now c.args.now) end.up end.hung_up end.want end.operated c.tick_on-over.ensures.over

pub returns-clause-in_time : goal.returns-clause-in_time
returns-clause-in_time g c up in_time =
    let S = g.S.Station in
    let w = ways S.opens S.receives S.asking S.life in
    let passed = c.tick_on-over.ensures in
    let end = c.finish.ensures in
    called w _ _ _ _ _ _ _ _ _ _ _ _ _ _ end.held (passed.in_time in_time) (passed.up ∙ up) passed.want
    end.up end.link end.hung_up end.want end.operated
