use Rattle.std.proofs.Common.{ap, ◌∙◌}
use Rattle.dnp_streams.specs.links.Deeds.{ways}
use Rattle.dnp_nodes.proofs.Outstations.{called, goes_first}
use Rattle.dnp_nodes.proofs.Runs.{runs_handed}
use Rattle.dnp_nodes.specs.Callees.{has_operated, is_up, link_of, want_of}
use Rattle.dnp_nodes.proofs.callee.Callee.sent.Goals as goal

pub returns-clause-handed : goal.returns-clause-handed
returns-clause-handed g c up =
    let S = g.S.Station in
    let w = ways S.opens S.receives S.asking S.life in
    let dropped = c.drop_sent.ensures in
    let went = c.go_on-over.ensures in
    let end = c.finish.ensures in
    called w _ _ _ _ _ _ _ _ _ _ _ _ _ _ end.held
    (goes_first w _ _ _ _ _ _ _ _ _ _ _ _ _ _ went.held (runs_handed w _ _ _ _ _ (ap link_of dropped)) (ap has_operated dropped) went.goes)
    (went.up ∙ ap is_up dropped ∙ up) (went.want ∙ ap want_of dropped)
    end.up end.link end.hung_up end.want end.operated
