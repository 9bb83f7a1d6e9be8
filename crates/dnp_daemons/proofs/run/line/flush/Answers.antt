use Rattle.std.proofs.Common.{ℕ, ◌<◌, subst}
use Rattle.dnp_daemons.proofs.run.line.flush.Goals as goal

pub returns-in-Err-clause-stopped : goal.returns-in-Err-clause-stopped
returns-in-Err-clause-stopped g c honest = record {
  done = c.loop-done.done;
  some = subst (λ (n : ℕ). c.loop-done.done < n) c.standing-done-end.ensures c.loop-done-test.true;
  before = g.S.Scripted.state c.loop-done.system;
  delivered = c.loop-done.invariant.1 (c.in-Err.ensures.held honest);
  stopped = c.in-Err.ensures.stopped honest;
}
