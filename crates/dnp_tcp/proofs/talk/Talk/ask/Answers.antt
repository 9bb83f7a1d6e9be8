use Rattle.std.proofs.Common.{◌∙◌}
use Rattle.dnp_streams.specs.links.Deeds.{ways}
use Rattle.dnp_tcp.proofs.Leads.{leads_then}
use Rattle.dnp_tcp.proofs.talk.Talk.ask.Goals as goal

pub returns-then-branch-2-clause-leads : goal.returns-then-branch-2-clause-leads
returns-then-branch-2-clause-leads g c honest =
    let S = g.S.Station in
    let w = ways S.opens S.receives S.asking S.life in
    leads_then w _ _ _ (c.loop.invariant.2 (c.take_turn.ensures.held honest)) (c.take_turn.ensures.leads honest)

pub returns-in_err-take_turn-clause-leads : goal.returns-in_err-take_turn-clause-leads
returns-in_err-take_turn-clause-leads g c honest =
    let S = g.S.Station in
    let w = ways S.opens S.receives S.asking S.life in
    leads_then w _ _ _ (c.loop.invariant.2 (c.take_turn.ensures.held honest)) (c.take_turn.ensures.leads honest)

pub loop-preserved : goal.loop-preserved
loop-preserved g c =
    let S = g.S.Station in
    let w = ways S.opens S.receives S.asking S.life in
    let before = c.loop.invariant in
    let made = c.take_turn.ensures in (
      made.kept ∙ before.0,
      λ honest. before.1 (made.held honest),
      λ honest. leads_then w _ _ _ (before.2 (made.held honest)) (made.leads honest),
    )
