use Rattle.std.proofs.Common.{◌∙◌}
use Rattle.dnp_streams.specs.links.Deeds.{ways}
use Rattle.dnp_tcp.proofs.Leads.{on_then}
use Rattle.dnp_tcp.proofs.serving.serve_to_end.Goals as goal

pub returns-in-Err-clause-leads : goal.returns-in-Err-clause-leads
returns-in-Err-clause-leads g c honest =
    let S = g.S.Station in
    let w = ways S.opens S.receives S.asking S.life in
    on_then w _ _ _ _ _ _ (c.loop.invariant.2 (c.serve.ensures.held honest)) (c.serve.ensures.leads honest)

pub returns-then-is_held_up-clause-leads : goal.returns-then-is_held_up-clause-leads
returns-then-is_held_up-clause-leads g c honest =
    let S = g.S.Station in
    let w = ways S.opens S.receives S.asking S.life in
    on_then w _ _ _ _ _ _ (c.loop.invariant.2 (c.serve.ensures.held honest)) (c.serve.ensures.leads honest)

pub returns-then-is_silent-clause-leads : goal.returns-then-is_silent-clause-leads
returns-then-is_silent-clause-leads g c honest =
    let S = g.S.Station in
    let w = ways S.opens S.receives S.asking S.life in
    on_then w _ _ _ _ _ _ (c.loop.invariant.2 (c.serve.ensures.held honest)) (c.serve.ensures.leads honest)

pub loop-preserved : goal.loop-preserved
loop-preserved g c =
    let S = g.S.Station in
    let w = ways S.opens S.receives S.asking S.life in
    let before = c.loop.invariant in
    let made = c.serve.ensures in (
      made.kept ∙ before.0,
      λ honest. before.1 (made.held honest),
      λ honest. on_then w _ _ _ _ _ _ (before.2 (made.held honest)) (made.leads honest),
    )
