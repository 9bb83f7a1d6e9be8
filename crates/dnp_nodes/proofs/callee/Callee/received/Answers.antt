use Rattle.std.proofs.Common.{⊎_elim, inl, inr, ◌∙◌}
use Rattle.dnp_streams.specs.links.Deeds.{ways}
use Rattle.dnp_nodes.proofs.Outstations.{called, cut}
use Rattle.dnp_nodes.proofs.callee.Callee.received.Goals as goal

pub returns-clause-fed : goal.returns-clause-fed
returns-clause-fed g c up =
    let S = g.S.Station in
    let w = ways S.opens S.receives S.asking S.life in
    let took = c.take_octets-over.ensures in
    let end = c.finish.ensures in
    ⊎_elim (λ untaken. inl (cut _ _ _ _ _ _ _ _ _ _ untaken.0 untaken.1 untaken.2 end.up end.hung_up end.want end.operated))
    (λ goes. inr (called w _ _ _ _ _ _ _ _ _ _ _ _ _ _ end.held goes (took.up ∙ up) took.want
    end.up end.link end.hung_up end.want end.operated)) took.fed
