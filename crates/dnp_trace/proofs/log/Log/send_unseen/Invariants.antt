use Rattle.std.proofs.Common.{◌≡◌, false, []}
use Rattle.dnp_trace.specs.Logs.{sent, times}
use Rattle.dnp_trace.proofs.log.Log.send_unseen.Given as goal

abbrev pub invariant-loop : goal.invariant-loop
invariant-loop l = l.self.cut ≡ false → l.self ≡ times l.counter (sent l.course []) l.initial.self
