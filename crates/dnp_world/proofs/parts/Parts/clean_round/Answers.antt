-- A round's fault is that of the event at which it stops.
use Rattle.dnp_concentrator.specs.declared.cause.Cause.TheVariants.{Device}
use Rattle.dnp_world.specs.declared.round_fault.RoundFault.TheVariants.{Fault}
use Rattle.dnp_world.proofs.Telling.{one_round_fault, tells_over}
use Rattle.dnp_world.proofs.parts.Parts.clean_round.Goals as goal

pub returns-in_err-poll_round-clause-device : goal.returns-in_err-poll_round-clause-device
returns-in_err-poll_round-clause-device g c =
    tells_over Fault Device _ _ c.poll_round.result c.from_residual.result c.in_err-poll_round.field-0.0 one_round_fault c.in_err-poll_round.was
    c.from_residual.ensures.1 c.poll_round.ensures.device
