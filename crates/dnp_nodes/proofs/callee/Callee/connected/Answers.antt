use Rattle.std.proofs.Common.{ap, ◌∙◌}
use Rattle.dnp_streams.specs.links.Deeds.{ways}
use Rattle.dnp_nodes.proofs.Outstations.{called, goes_from}
use Rattle.dnp_nodes.specs.Callees.{has_operated, is_up, link_of, want_of}
use Rattle.dnp_nodes.proofs.callee.Callee.connected.Goals as goal

pub returns-clause-opened : goal.returns-clause-opened
returns-clause-opened g c =
    let S = g.S.Station in
    let w = ways S.opens S.receives S.asking S.life in
    let began = c.begin.ensures in
    let opened = c.open_on-over.ensures in
    let end = c.finish.ensures in
    let (reply, goes) = opened.goes in (
      reply,
      called w _ _ _ _ _ _ _ _ _ _ _ _ _ _ end.held (goes_from w _ _ _ _ _ _ _ _ _ _ _ _ (ap link_of began) (ap has_operated began) goes)
          (opened.up ∙ ap is_up began) (opened.want ∙ ap want_of began)
          end.up end.link end.hung_up end.want end.operated,
    )
