use Rattle.std.proofs.Common.{sym, ◌∙◌}
use Rattle.dnp_pointdb.specs.Database as spec
use Rattle.dnp_pointdb.proofs.Mapped.{done-none, done-step, done-all}
use Rattle.dnp_pointdb.proofs.state.lose_all.Goals as goal

pub loop-state-init : goal.loop-state-init
loop-state-init c = sym (done-none spec.lost_state c.args.states.now)

pub loop-state-preserved : goal.loop-state-preserved
loop-state-preserved c =
    done-step spec.lost_state c.loop-state.state-index c.args.states.now c.loop-state.states _ _ c.loop-state.invariant c.loop-state-test.true c.lost.ensures

pub returns : goal.returns
returns c = c.loop-state.invariant ∙ done-all spec.lost_state c.loop-state.state-index c.args.states.now c.loop-state-test.false
