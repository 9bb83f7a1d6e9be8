-- Each step is done after the ones before it, or stops.
use Rattle.std.proofs.Common.{inl, inr}
use Rattle.dnp_world.proofs.OneLinkRuns.{any_err}
use Rattle.dnp_world.proofs.OnResults.{at_err, at_ok}
use Rattle.dnp_concentrator.specs.declared.cause.Cause.TheVariants.{Device}
use Rattle.dnp_world.proofs.Telling.{over, over_after, tells_on, tells_over}
use Rattle.dnp_world.proofs.parts.Parts.poll_round.Goals as goal

pub returns-in_err-happen-clause-stopped : goal.returns-in_err-happen-clause-stopped
returns-in_err-happen-clause-stopped g c = λ well.
    any_err c.from_residual.result _ (inl (c.in_err-happen.ensures.stopped well))

pub returns-in_err-flush-clause-stopped : goal.returns-in_err-flush-clause-stopped
returns-in_err-flush-clause-stopped g c = λ well.
    any_err c.from_residual-in_err-flush.result _
    (inr (c.happen.new.self.system, c.in_ok-happen.ensures.done (c.flush.ensures.held well), inl (c.in_err-flush.ensures.stopped well)))

pub returns-in_err-flush-2-clause-stopped : goal.returns-in_err-flush-2-clause-stopped
returns-in_err-flush-2-clause-stopped g c = λ well.
    let before = c.flush-2.ensures.held well in
    any_err c.from_residual-in_err-flush-2.result _
    (inr (
      c.happen.new.self.system,
      c.in_ok-happen.ensures.done (c.flush.ensures.held before),
      inr (c.flush.new.self.system, c.in_ok-flush.ensures.done before, inl (c.in_err-flush-2.ensures.stopped well)),
    ))

pub returns-clause-stopped : goal.returns-clause-stopped
returns-clause-stopped g c = λ well.
    let before = c.flush-3.ensures.held well in
    let first = c.flush-2.ensures.held before in
    at_err c.flush-3.result (c.flush-3.ensures.stopped well) (λ stops. inr (
      c.happen.new.self.system,
      c.in_ok-happen.ensures.done (c.flush.ensures.held first),
      inr (
        c.flush.new.self.system,
        c.in_ok-flush.ensures.done first,
        inr (c.flush-2.new.self.system, c.in_ok-flush-2.ensures.done before, inl stops),
      ),
    ))

pub returns-clause-done : goal.returns-clause-done
returns-clause-done g c = λ well.
    let before = c.flush-3.ensures.held well in
    let first = c.flush-2.ensures.held before in
    at_ok c.flush-3.result (c.flush-3.ensures.done well) (λ confirms. record {
      asked = c.happen.new.self.system;
      answered = c.flush.new.self.system;
      taken = c.flush-2.new.self.system;
      asks = c.in_ok-happen.ensures.done (c.flush.ensures.held first);
      down = c.in_ok-flush.ensures.done first;
      up = c.in_ok-flush-2.ensures.done before;
      confirms = confirms;
    })

pub returns-in_err-happen-clause-device : goal.returns-in_err-happen-clause-device
returns-in_err-happen-clause-device g c =
    over _ _
    (tells_on _ _ c.happen.result c.from_residual.result c.in_err-happen.field-0.0 c.in_err-happen.was c.from_residual.ensures.1 c.happen.ensures.device)

pub returns-in_err-flush-clause-device : goal.returns-in_err-flush-clause-device
returns-in_err-flush-clause-device g c =
    over_after _ _ _ c.happen.result _ c.in_ok-happen.was c.happen.ensures.device.runs_on
    (tells_over (λ x. x) Device _ _ c.flush.result c.from_residual-in_err-flush.result c.in_err-flush.field-0.0 (λ x same. same) c.in_err-flush.was
    c.from_residual-in_err-flush.ensures.1 c.flush.ensures.device)

pub returns-in_err-flush-2-clause-device : goal.returns-in_err-flush-2-clause-device
returns-in_err-flush-2-clause-device g c =
    over_after _ _ _ c.happen.result _ c.in_ok-happen.was c.happen.ensures.device.runs_on
    (over_after _ _ _ c.flush.result _ c.in_ok-flush.was c.flush.ensures.device.runs_on
    (tells_over (λ x. x) Device _ _ c.flush-2.result c.from_residual-in_err-flush-2.result c.in_err-flush-2.field-0.0 (λ x same. same) c.in_err-flush-2.was
    c.from_residual-in_err-flush-2.ensures.1 c.flush-2.ensures.device))

pub returns-clause-device : goal.returns-clause-device
returns-clause-device g c =
    over_after _ _ _ c.happen.result _ c.in_ok-happen.was c.happen.ensures.device.runs_on
    (over_after _ _ _ c.flush.result _ c.in_ok-flush.was c.flush.ensures.device.runs_on
    (over_after _ _ _ c.flush-2.result _ c.in_ok-flush-2.was c.flush-2.ensures.device.runs_on c.flush-3.ensures.device))
