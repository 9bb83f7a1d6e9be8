use Rattle.std.proofs.Common.{◌≡◌, false}
use Rattle.dnp_trace.specs.Logs.{came_to, times}
use Rattle.dnp_trace.proofs.log.Log.come_to.Given as goal

abbrev pub invariant-loop : goal.invariant-loop
invariant-loop l = l.self.cut ≡ false → l.self ≡ times l.counter (came_to l.line l.what) l.initial.self
