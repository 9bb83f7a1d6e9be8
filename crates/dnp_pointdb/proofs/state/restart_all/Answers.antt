use Rattle.std.proofs.Common.{sym, ◌∙◌}
use Rattle.dnp_pointdb.specs.Database as spec
use Rattle.dnp_pointdb.proofs.Mapped.{done-none, done-step, done-all}
use Rattle.dnp_pointdb.proofs.state.restart_all.Goals as goal

pub loop-state-init : goal.loop-state-init
loop-state-init c = sym (done-none spec.restarted_state c.args.states.now)

pub loop-state-preserved : goal.loop-state-preserved
loop-state-preserved c =
    done-step spec.restarted_state c.loop-state.state-index c.args.states.now c.loop-state.states _ _ c.loop-state.invariant c.loop-state-test.true c.new.ensures

pub returns : goal.returns
returns c = c.loop-state.invariant ∙ done-all spec.restarted_state c.loop-state.state-index c.args.states.now c.loop-state-test.false
