use Rattle.dnp_concentrator.proofs.Sendings.{run_granted}
use Rattle.dnp_concentrator.proofs.relay_laws.a_run_sends_no_control_twice.Goals as goal

pub returns : goal.returns
returns c = λ book steps id run. c.no_control_is_sent_twice.ensures book steps id (run_granted book steps run)
