use Rattle.std.proofs.Common.{◌≡◌}
use Rattle.dnp_tcp.proofs.visit.Visit.send.Given as goal

abbrev pub invariant-loop : goal.invariant-loop
invariant-loop g l = l.link.waiting ≡ l.fn.link.waiting
