use Rattle.std.proofs.Common.{◌∙◌}
use Rattle.dnp_streams.specs.links.Deeds.{ways}
use Rattle.dnp_tcp.proofs.Leads.{leads_then}
use Rattle.dnp_tcp.proofs.talk.Talk.hear_all.Goals as goal

pub returns-then-branch-clause-leads : goal.returns-then-branch-clause-leads
returns-then-branch-clause-leads g c honest =
    let S = g.S.Station in
    let w = ways S.opens S.receives S.asking S.life in
    leads_then w _ _ _ (c.loop.invariant.2 (c.hear_on.ensures.held honest)) (c.hear_on.ensures.leads honest)

pub returns-in_err-hear_on-clause-leads : goal.returns-in_err-hear_on-clause-leads
returns-in_err-hear_on-clause-leads g c honest =
    let S = g.S.Station in
    let w = ways S.opens S.receives S.asking S.life in
    leads_then w _ _ _ (c.loop.invariant.2 (c.hear_on.ensures.held honest)) (c.hear_on.ensures.leads honest)

pub loop-preserved : goal.loop-preserved
loop-preserved g c =
    let S = g.S.Station in
    let w = ways S.opens S.receives S.asking S.life in
    let before = c.loop.invariant in
    let made = c.hear_on.ensures in (
      made.kept ∙ before.0,
      λ honest. before.1 (made.held honest),
      λ honest. leads_then w _ _ _ (before.2 (made.held honest)) (made.leads honest),
    )
