use Rattle.std.proofs.Common.{rules, ◌≡◌, ◌⊎◌, IsTrue, Some, Result, Err, refl, ap, sym, ◌∙◌}
use Rattle.std.specs.Result.{result_err}
use Rattle.dnp_outstation.specs.declared.fault.Fault.{Fault}
use Rattle.dnp_outstation.specs.declared.fault.Fault.TheVariants as fault
use Rattle.dnp_outstation.specs.Station.{IsStoreFault, may_tell}
use Rattle.dnp_outstation.proofs.Faults.{asks_answered, err_told, lanes_answered, lanes_told, not_answered, on_err, outputs_told}
use Rattle.dnp_outstation.proofs.outstation.Outstation.receive.Goals as goal

-- the fault is passed on as it is
is_told : {A B : Type 0} (f e : Fault) (r : Result A Fault) → result_err r ≡ Some e → r ≡ Err f → (let told : Result B Fault = Err e in told) ≡ Err f
is_told f e r told failed = let is : Some e ≡ Some f = sym told ∙ ap result_err failed in cc

pub returns-clause-asks : goal.returns-clause-asks
returns-clause-asks g c = asks_answered _ _ _ _ _

pub returns-in_err-receive_into-clause-asks : goal.returns-in_err-receive_into-clause-asks
returns-in_err-receive_into-clause-asks g c =
    let asks = c.in_err-receive_into.ensures.asks in
    record {
      looked_at = λ _. asks.looked_at refl;
      unsolicited = λ _. asks.unsolicited refl;
      announced = λ _. asks.announced refl;
      stray = λ _. asks.stray refl;
      again = λ _. asks.again refl;
      held = λ _. asks.held refl;
      inside = λ _. asks.inside refl;
    }

pub returns-in_err-receive_into-clause-memory : goal.returns-in_err-receive_into-clause-memory
returns-in_err-receive_into-clause-memory g c = λ honest failed.
    c.in_err-receive_into.ensures.memory honest (is_told fault.Memory c.in_err-receive_into.field-0.0 c.from_residual.result (search rules) failed)

pub returns-clause-lanes : goal.returns-clause-lanes
returns-clause-lanes g c = lanes_answered _ _ _ _ c.in_ok-receive_into.ensures.lanes

pub returns-in_err-receive_into-clause-lanes : goal.returns-in_err-receive_into-clause-lanes
returns-in_err-receive_into-clause-lanes g c =
    lanes_told (λ (f : Fault). f) fault.Device c.in_err-receive_into.field-0.0 c.from_residual.result (search rules) c.in_err-receive_into.ensures.lanes

pub returns-in_err-receive_into-clause-outputs : goal.returns-in_err-receive_into-clause-outputs
returns-in_err-receive_into-clause-outputs g c =
    outputs_told (λ (f : Fault). f) fault.Exhausted fault.Device c.in_err-receive_into.field-0.0 c.from_residual.result (λ f same. same) (search rules)
    c.in_err-receive_into.ensures.outputs

pub returns-in_err-receive_into-clause-received : goal.returns-in_err-receive_into-clause-received
returns-in_err-receive_into-clause-received g c = λ _ _. not_answered c.in_err-receive_into.field-0.0 c.from_residual.result _ (search rules)

pub returns-in_err-receive_into-clause-whole : goal.returns-in_err-receive_into-clause-whole
returns-in_err-receive_into-clause-whole g c = not_answered c.in_err-receive_into.field-0.0 c.from_residual.result _ (search rules)

pub returns-in_err-receive_into-clause-core_unchanged : goal.returns-in_err-receive_into-clause-core_unchanged
returns-in_err-receive_into-clause-core_unchanged g c = on_err c.from_residual.result c.in_err-receive_into.ensures.core_unchanged

pub returns-in_err-receive_into-clause-unchanged : goal.returns-in_err-receive_into-clause-unchanged
returns-in_err-receive_into-clause-unchanged g c = λ honest outputs_honest.
    on_err c.from_residual.result (c.in_err-receive_into.ensures.unchanged honest outputs_honest)

pub returns-in_err-receive_into-clause-named : goal.returns-in_err-receive_into-clause-named
returns-in_err-receive_into-clause-named g c =
    err_told c.in_err-receive_into.field-0.0 c.from_residual.result IsStoreFault (search rules) c.in_err-receive_into.ensures.named

pub returns-in_err-receive_into-clause-faults : goal.returns-in_err-receive_into-clause-faults
returns-in_err-receive_into-clause-faults g c =
    err_told c.in_err-receive_into.field-0.0 c.from_residual.result
    (λ f. IsTrue (may_tell g.L.Lanes.may_fault f) ⊎ IsTrue (may_tell g.O.Outputs.may_fault f)) (search rules) c.in_err-receive_into.ensures.faults

pub returns-in_err-receive_into-clause-device : goal.returns-in_err-receive_into-clause-device
returns-in_err-receive_into-clause-device g c = λ failed.
    c.in_err-receive_into.ensures.device (is_told fault.Device c.in_err-receive_into.field-0.0 c.from_residual.result (search rules) failed)
