use Rattle.std.proofs.Common.{◌∙◌}
use Rattle.dnp_streams.specs.links.Deeds.{ways}
use Rattle.dnp_tcp.proofs.Leads.{leads_then}
use Rattle.dnp_tcp.proofs.talk.Talk.go_on.Goals as goal

pub loop-preserved : goal.loop-preserved
loop-preserved g c =
    let S = g.S.Station in
    let w = ways S.opens S.receives S.asking S.life in
    let before = c.loop.invariant in
    let asked = c.ask_next-is_over.ensures in (
      asked.kept ∙ before.0,
      λ honest. before.1 (asked.held honest),
      λ honest. leads_then w _ _ _ (before.2 (asked.held honest)) (asked.leads honest),
    )

pub returns-then-stays-clause-leads : goal.returns-then-stays-clause-leads
returns-then-stays-clause-leads g c honest =
    let S = g.S.Station in
    let w = ways S.opens S.receives S.asking S.life in
    let asked = c.ask_next-is_over.ensures in
    leads_then w _ _ _ (c.loop.invariant.2 (asked.held honest)) (asked.leads honest)
