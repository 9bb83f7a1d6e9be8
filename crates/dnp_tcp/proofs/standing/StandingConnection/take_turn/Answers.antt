use Rattle.std.proofs.Common.{◌∙◌}
use Rattle.dnp_streams.specs.links.Deeds.{ways}
use Rattle.dnp_tcp.proofs.Leads.{on_listened, on_same, on_then}
use Rattle.dnp_tcp.proofs.standing.StandingConnection.take_turn.Goals as goal

pub returns-in_err-step-clause-leads : goal.returns-in_err-step-clause-leads
returns-in_err-step-clause-leads g c honest =
    let S = g.S.Station in
    let w = ways S.opens S.receives S.asking S.life in
    let before = on_same w _ _ _ _ _ (c.loop.invariant.2 (c.step.ensures.held honest)) c.send.ensures.standing c.send.ensures.fragments in
    on_then w _ _ _ _ _ _ before (c.step.ensures.leads honest)

pub returns-then-is_over-clause-leads : goal.returns-then-is_over-clause-leads
returns-then-is_over-clause-leads g c honest =
    let S = g.S.Station in
    let w = ways S.opens S.receives S.asking S.life in
    let before = on_same w _ _ _ _ _ (c.loop.invariant.2 (c.step.ensures.held honest)) c.send.ensures.standing c.send.ensures.fragments in
    on_then w _ _ _ _ _ _ before (c.step.ensures.leads honest)

pub returns-in_err-is_over-clause-leads : goal.returns-in_err-is_over-clause-leads
returns-in_err-is_over-clause-leads g c honest =
    let S = g.S.Station in
    let w = ways S.opens S.receives S.asking S.life in
    let before = on_same w _ _ _ _ _ (c.loop.invariant.2 (c.step.ensures.held honest)) c.send.ensures.standing c.send.ensures.fragments in
    on_listened w _ _ _ _ _ (on_then w _ _ _ _ _ _ before (c.step.ensures.leads honest)) c.listen.ensures

pub loop-preserved-then-branch : goal.loop-preserved-then-branch
loop-preserved-then-branch g c =
    let S = g.S.Station in
    let w = ways S.opens S.receives S.asking S.life in
    let before = c.loop.invariant in
    let made = c.step.ensures in (
      made.kept ∙ before.0,
      λ honest. before.1 (made.held honest),
      λ honest.
          on_then w _ _ _ _ _ _ (on_same w _ _ _ _ _ (before.2 (made.held honest)) c.send.ensures.standing c.send.ensures.fragments) (made.leads honest),
    )

pub loop-preserved : goal.loop-preserved
loop-preserved g c =
    let S = g.S.Station in
    let w = ways S.opens S.receives S.asking S.life in
    let before = c.loop.invariant in
    let made = c.step.ensures in (
      made.kept ∙ before.0,
      λ honest. before.1 (made.held honest),
      λ honest.
          on_listened w _ _ _ _ _
          (on_then w _ _ _ _ _ _ (on_same w _ _ _ _ _ (before.2 (made.held honest)) c.send.ensures.standing c.send.ensures.fragments) (made.leads honest))
          c.listen.ensures,
    )
