use Rattle.std.proofs.Common.{ap, ◌∙◌}
use Rattle.dnp_streams.specs.links.Deeds.{ways}
use Rattle.dnp_nodes.proofs.Masters.{called, goes_handed, goes_then}
use Rattle.dnp_nodes.specs.Callers.{basis_of, has_stored, is_up, link_of, want_of}
use Rattle.dnp_nodes.proofs.caller.Caller.sent.Goals as goal

pub returns-clause-handed : goal.returns-clause-handed
returns-clause-handed g c up =
    let S = g.S.Station in
    let w = ways S.opens S.receives S.asking S.life in
    let dropped = c.drop_sent.ensures in
    let went = c.go_on-over.ensures in
    let end = c.finish.ensures in
    called w _ _ _ _ _ _ _ _ _ _ _ _ _ _ end.held
    (goes_then w _ _ _ _ _ _ _ _ _ _ _ _ _ went.held (ap basis_of dropped) (goes_handed w _ _ _ _ _ _ (ap link_of dropped) (ap has_stored dropped)) went.goes)
    (went.phase ∙ ap is_up dropped ∙ up) (went.want ∙ ap want_of dropped)
    end.phase (λ none. (end.same none).1) end.hung_up end.want end.stored
