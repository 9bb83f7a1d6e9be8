-- Each of the three steps goes through after the ones before it, or ends the way.
use Rattle.std.proofs.Common.{inl, inr}
use Rattle.std.proofs.lemmas.Result.{IfErr-weaker, err_from_is_err_and}
use Rattle.dnp_world.specs.Controls.{First, Second, Third}
use Rattle.dnp_world.proofs.OnResults.{at_ok}
use Rattle.dnp_world.proofs.SystemControls.{ends_of}
use Rattle.dnp_concentrator.specs.declared.cause.Cause.TheVariants.{Device}
use Rattle.dnp_world.specs.declared.round_fault.ControlFault.TheVariants.{Fault}
use Rattle.dnp_world.proofs.Telling.{over_after, tells_over}
use Rattle.dnp_world.proofs.parts.Parts.relay_through.Goals as goal

pub returns-in_err-exchange-clause-ended : goal.returns-in_err-exchange-clause-ended
returns-in_err-exchange-clause-ended g c = λ well.
    let p = err_from_is_err_and c.from_residual.result c.from_residual.ensures.1 in
    rw (p.1, p.2) (ends_of c.in_err-exchange.field-0.0 (λ status told. First told) (λ stops. inl stops) (c.in_err-exchange.ensures.ended well))

pub returns-in_err-exchange-2-clause-ended : goal.returns-in_err-exchange-2-clause-ended
returns-in_err-exchange-2-clause-ended g c = λ well.
    let selected = c.exchange.new.self.system in
    let first = c.in_ok-exchange.ensures.done (c.exchange-2.ensures.held well) in
    let p = err_from_is_err_and c.from_residual-in_err-exchange-2.result c.from_residual-in_err-exchange-2.ensures.1 in
    rw (p.1, p.2)
    (ends_of c.in_err-exchange-2.field-0.0 (λ status told. Second selected first told) (λ stops. inr (selected, first, inl stops))
    (c.in_err-exchange-2.ensures.ended well))

pub returns-clause-ended : goal.returns-clause-ended
returns-clause-ended g c = λ well.
    let selected = c.exchange.new.self.system in
    let operated = c.exchange-2.new.self.system in
    let before = c.relay_one.ensures.held well in
    let first = c.in_ok-exchange.ensures.done (c.exchange-2.ensures.held before) in
    let second = c.in_ok-exchange-2.ensures.done before in
    IfErr-weaker c.relay_one.result _ _ (λ fault. ends_of fault (λ status told. Third selected operated first second told)
    (λ stops. inr (selected, first, inr (operated, second, stops)))) (c.relay_one.ensures.ended well)

pub returns-clause-done : goal.returns-clause-done
returns-clause-done g c = λ well.
    let before = c.relay_one.ensures.held well in
    at_ok c.relay_one.result (c.relay_one.ensures.done well) (λ finishes. record {
      selected = c.exchange.new.self.system;
      operated = c.exchange-2.new.self.system;
      selects = c.in_ok-exchange.ensures.done (c.exchange-2.ensures.held before);
      operates = c.in_ok-exchange-2.ensures.done before;
      finishes = finishes;
    })

pub returns-in_err-exchange-clause-device : goal.returns-in_err-exchange-clause-device
returns-in_err-exchange-clause-device g c =
    tells_over (λ x. x) (Fault Device) _ _ c.exchange.result c.from_residual.result c.in_err-exchange.field-0.0 (λ x same. same)
    c.in_err-exchange.was c.from_residual.ensures.1 c.exchange.ensures.device

pub returns-in_err-exchange-2-clause-device : goal.returns-in_err-exchange-2-clause-device
returns-in_err-exchange-2-clause-device g c =
    over_after _ _ _ c.exchange.result _ c.in_ok-exchange.was c.exchange.ensures.device.runs_on
    (tells_over (λ x. x) (Fault Device) _ _ c.exchange-2.result c.from_residual-in_err-exchange-2.result c.in_err-exchange-2.field-0.0 (λ x same. same)
    c.in_err-exchange-2.was c.from_residual-in_err-exchange-2.ensures.1 c.exchange-2.ensures.device)
