-- A step, and what comes of it there and back, or where that stops.
use Rattle.std.proofs.Common.{inl, inr}
use Rattle.std.proofs.lemmas.Result.{err_from_is_err_and}
use Rattle.dnp_world.proofs.SystemControls.{ends_of}
use Rattle.dnp_concentrator.specs.declared.cause.Cause.TheVariants.{Device}
use Rattle.dnp_world.specs.declared.round_fault.ControlFault.TheVariants.{Fault}
use Rattle.dnp_world.proofs.Telling.{no_fault, one_fault, over, over_after, over_nothing, tells_as, tells_over}
use Rattle.dnp_world.proofs.parts.Parts.exchange.Goals as goal

pub returns-in_err-relay_one-clause-ended : goal.returns-in_err-relay_one-clause-ended
returns-in_err-relay_one-clause-ended g c = λ well.
    let p = err_from_is_err_and c.from_residual.result c.from_residual.ensures.1 in
    rw (p.1, p.2) (ends_of c.in_err-relay_one.field-0.0 (λ status told. told) (λ stops. inl stops) (c.in_err-relay_one.ensures.ended well))

pub returns-in_err-flush-clause-ended : goal.returns-in_err-flush-clause-ended
returns-in_err-flush-clause-ended g c = λ well.
    let p = err_from_is_err_and c.from_residual-in_err-flush.result c.from_residual-in_err-flush.ensures.1 in
    rw (p.1, p.2)
    (inr (c.relay_one.new.self.system, c.in_ok-relay_one.ensures.done (c.flush.ensures.held well), inl (c.in_err-flush.ensures.stopped well)))

pub returns-in_err-flush-2-clause-ended : goal.returns-in_err-flush-2-clause-ended
returns-in_err-flush-2-clause-ended g c = λ well.
    let before = c.flush-2.ensures.held well in
    let p = err_from_is_err_and c.from_residual-in_err-flush-2.result c.from_residual-in_err-flush-2.ensures.1 in
    rw (p.1, p.2)
    (inr (
      c.relay_one.new.self.system,
      c.in_ok-relay_one.ensures.done (c.flush.ensures.held before),
      inr (c.flush.new.self.system, c.in_ok-flush.ensures.done before, inl (c.in_err-flush-2.ensures.stopped well)),
    ))

pub returns-clause-done : goal.returns-clause-done
returns-clause-done g c = λ well.
    let before = c.flush-2.ensures.held well in
    record {
      relayed = c.relay_one.new.self.system;
      answered = c.flush.new.self.system;
      step = c.in_ok-relay_one.ensures.done (c.flush.ensures.held before);
      down = c.in_ok-flush.ensures.done before;
      up = c.in_ok-flush-2.ensures.done well;
    }

pub returns-in_err-relay_one-clause-device : goal.returns-in_err-relay_one-clause-device
returns-in_err-relay_one-clause-device g c =
    over _ _ (tells_as (λ x. x) (Fault Device) _ _ c.relay_one.result c.from_residual.result c.in_err-relay_one.field-0.0 (λ x same. same)
    c.in_err-relay_one.was c.from_residual.ensures.1 c.relay_one.ensures.device)

pub returns-in_err-flush-clause-device : goal.returns-in_err-flush-clause-device
returns-in_err-flush-clause-device g c =
    over_after _ _ _ c.relay_one.result _ c.in_ok-relay_one.was c.relay_one.ensures.device.runs_on
    (tells_over Fault Device _ _ c.flush.result c.from_residual-in_err-flush.result c.in_err-flush.field-0.0 one_fault c.in_err-flush.was
    c.from_residual-in_err-flush.ensures.1 c.flush.ensures.device)

pub returns-in_err-flush-2-clause-device : goal.returns-in_err-flush-2-clause-device
returns-in_err-flush-2-clause-device g c =
    over_after _ _ _ c.relay_one.result _ c.in_ok-relay_one.was c.relay_one.ensures.device.runs_on
    (over_after _ _ _ c.flush.result _ c.in_ok-flush.was c.flush.ensures.device.runs_on
    (tells_over Fault Device _ _ c.flush-2.result c.from_residual-in_err-flush-2.result c.in_err-flush-2.field-0.0 one_fault c.in_err-flush-2.was
    c.from_residual-in_err-flush-2.ensures.1 c.flush-2.ensures.device))

pub returns-clause-device : goal.returns-clause-device
returns-clause-device g c =
    over_after _ _ _ c.relay_one.result _ c.in_ok-relay_one.was c.relay_one.ensures.device.runs_on
    (over_after _ _ _ c.flush.result _ c.in_ok-flush.was c.flush.ensures.device.runs_on
    (over_nothing _ _ c.flush-2.result _ c.in_ok-flush-2.was c.flush-2.ensures.device.runs_on (no_fault _ _)))
