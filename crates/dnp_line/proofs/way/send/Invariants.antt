use Rattle.dnp_line.proofs.Sending.{IsSending}
use Rattle.dnp_line.proofs.way.send.Given as goal

abbrev pub invariant-loop-k : goal.invariant-loop-k
invariant-loop-k l = IsSending l.fn.line l.sender l.fragment l.k l.line
