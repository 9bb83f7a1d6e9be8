-- A step stops at its event, or before the book is read.
use Rattle.std.proofs.Common.{inl, inr}
use Rattle.std.proofs.lemmas.Result.{err_from_is_err_and}
use Rattle.dnp_concentrator.specs.declared.cause.Cause.TheVariants.{Device}
use Rattle.dnp_world.specs.declared.round_fault.ControlFault.TheVariants.{Fault}
use Rattle.dnp_world.proofs.Telling.{no_fault, one_fault, refused_is_no_fault, tells_after, tells_as, tells_nothing}
use Rattle.dnp_world.proofs.parts.Parts.relay_one.Goals as goal

pub returns-in_err-happen-clause-ended : goal.returns-in_err-happen-clause-ended
returns-in_err-happen-clause-ended g c = λ well.
    let p = err_from_is_err_and c.from_residual.result c.from_residual.ensures.1 in
    rw (p.1, p.2) (inl (c.in_err-happen.ensures.stopped well))

pub returns-in_err-status-clause-ended : goal.returns-in_err-status-clause-ended
returns-in_err-status-clause-ended g c = λ well.
    let p = err_from_is_err_and c.from_residual-in_err-status.result c.from_residual-in_err-status.ensures.1 in
    rw (p.1, p.2, c.status_on.ensures.same well) (inr (c.in_ok-happen.ensures.done (c.status_on.ensures.held well)))

pub returns-in_err-happen-clause-device : goal.returns-in_err-happen-clause-device
returns-in_err-happen-clause-device g c =
    tells_as Fault Device _ _ c.happen.result c.from_residual.result c.in_err-happen.field-0.0 one_fault c.in_err-happen.was
    c.from_residual.ensures.1 c.happen.ensures.device

pub returns-in_err-status-clause-device : goal.returns-in_err-status-clause-device
returns-in_err-status-clause-device g c =
    tells_after _ _ _ c.happen.result _ c.in_ok-happen.was c.happen.ensures.device
    (tells_as Fault Device _ _ c.status_on.result c.from_residual-in_err-status.result c.in_err-status.field-0.0 one_fault c.in_err-status.was
    c.from_residual-in_err-status.ensures.1 c.status_on.ensures.device)

pub returns-in_err-refused_by-clause-device : goal.returns-in_err-refused_by-clause-device
returns-in_err-refused_by-clause-device g c =
    let told = c.in_err-refused_by.ensures.told in
    tells_after _ _ _ c.happen.result _ c.in_ok-happen.was c.happen.ensures.device
    (tells_nothing _ _ c.status_on.result c.in_ok-status.status c.in_ok-status.was c.status_on.ensures.device
    (refused_is_no_fault _ _ _ c.from_residual-in_err-refused_by.ensures.1 told.3))

pub returns-clause-device : goal.returns-clause-device
returns-clause-device g c =
    tells_after _ _ _ c.happen.result _ c.in_ok-happen.was c.happen.ensures.device
    (tells_nothing _ _ c.status_on.result c.in_ok-status.status c.in_ok-status.was c.status_on.ensures.device (no_fault _ _))
