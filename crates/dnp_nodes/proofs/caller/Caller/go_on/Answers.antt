use Rattle.std.proofs.Common.{refl, ◌∙◌}
use Rattle.dnp_streams.specs.links.Deeds.{ways}
use Rattle.dnp_nodes.proofs.Masters.{goes_none, goes_then}
use Rattle.dnp_nodes.proofs.caller.Caller.go_on.Goals as goal

pub returns-in-Over-clause-goes : goal.returns-in-Over-clause-goes
returns-in-Over-clause-goes g c =
    let S = g.S.Station in
    let w = ways S.opens S.receives S.asking S.life in
    let before = c.loop.invariant in
    goes_then w _ _ _ _ _ _ _ _ _ _ _ _ _ c.step.ensures.held before.basis before.goes c.step.ensures.goes

pub loop-init : goal.loop-init
loop-init g c =
    let S = g.S.Station in
    let w = ways S.opens S.receives S.asking S.life in
    record { kept = refl; held = λ honest. honest; goes = goes_none w _ _ _ _; basis = refl; want = refl; phase = refl }

pub loop-preserved : goal.loop-preserved
loop-preserved g c =
    let S = g.S.Station in
    let w = ways S.opens S.receives S.asking S.life in
    let before = c.loop.invariant in
    let made = c.step.ensures in
    record {
      kept = made.kept ∙ before.kept;
      held = λ honest. before.held (made.held honest);
      goes = goes_then w _ _ _ _ _ _ _ _ _ _ _ _ _ made.held before.basis before.goes made.goes;
      basis = made.basis ∙ before.basis;
      want = made.want ∙ before.want;
      phase = made.phase ∙ before.phase;
    }
