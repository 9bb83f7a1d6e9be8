use Rattle.dnp_world.proofs.OneLinkSending.{IsSending}
use Rattle.dnp_world.proofs.sending.send_all.Given as goal

abbrev pub invariant-loop-fragment : goal.invariant-loop-fragment
invariant-loop-fragment l = IsSending l.fragments l.fragment-index l.fn.line l.fn.port l.line l.port
