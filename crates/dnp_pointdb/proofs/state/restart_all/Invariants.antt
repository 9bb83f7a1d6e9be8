use Rattle.std.proofs.Common.{◌≡◌}
use Rattle.dnp_pointdb.specs.Database as spec
use Rattle.dnp_pointdb.proofs.Mapped.{done}
use Rattle.dnp_pointdb.proofs.state.restart_all.Given as goal

abbrev pub invariant-loop-state : goal.invariant-loop-state
invariant-loop-state l = l.states ≡ done spec.restarted_state l.state-index l.initial.states
