use Rattle.std.proofs.Common.{refl, ◌∙◌}
use Rattle.dnp_streams.specs.links.Deeds.{ways}
use Rattle.dnp_nodes.proofs.Outstations.{hears_none, hears_then}
use Rattle.dnp_nodes.proofs.callee.Callee.hear_all.Goals as goal

pub returns-in-Over-clause-hears : goal.returns-in-Over-clause-hears
returns-in-Over-clause-hears g c =
    let S = g.S.Station in
    let w = ways S.opens S.receives S.asking S.life in
    hears_then w _ _ _ _ _ _ _ _ _ _ _ _ c.hear.ensures.held c.loop.invariant.hears c.hear.ensures.hears

pub loop-init : goal.loop-init
loop-init g c =
    let S = g.S.Station in
    let w = ways S.opens S.receives S.asking S.life in
    record { kept = refl; held = λ honest. honest; hears = hears_none w _ _ _ _; plan = refl; want = refl; up = refl }

pub loop-preserved : goal.loop-preserved
loop-preserved g c =
    let S = g.S.Station in
    let w = ways S.opens S.receives S.asking S.life in
    let before = c.loop.invariant in
    let made = c.hear.ensures in
    record {
      kept = made.kept ∙ before.kept;
      held = λ honest. before.held (made.held honest);
      hears = hears_then w _ _ _ _ _ _ _ _ _ _ _ _ made.held before.hears made.hears;
      plan = made.plan ∙ before.plan;
      want = made.want ∙ before.want;
      up = made.up ∙ before.up;
    }
