use Rattle.std.proofs.Common.{rules, ◌⊎◌, Bool, IsTrue, inl, inr, refl}
use Rattle.dnp_objects.specs.declared.store.StoreFault.{StoreFault}
use Rattle.dnp_objects.specs.declared.store.StoreFault.TheVariants as store
use Rattle.dnp_outstation.specs.declared.fault.Fault.TheVariants as fault
use Rattle.dnp_outstation.specs.Station.{fault_of, may_tell, IsStoreFault}
use Rattle.dnp_outstation.proofs.Faults.{asks_answered, err_told, is_stores, is_told, lanes_answered, lanes_told, may_told, not_answered, on_err, outputs_answered, outputs_told, told_apart}
use Rattle.dnp_outstation.proofs.outstation.Outstation.receive_into.Goals as goal

-- a fault that one store or the other may answer is told as one of these
either_told : (may also : StoreFault → Bool) (e : StoreFault) → IsTrue (may e) ⊎ IsTrue (also e)
    → IsTrue (may_tell may (fault_of e)) ⊎ IsTrue (may_tell also (fault_of e))
either_told may also e (inl is) = inl (may_told may e is)
either_told may also e (inr is) = inr (may_told also e is)

pub returns-clause-asks : goal.returns-clause-asks
returns-clause-asks g c = asks_answered _ _ _ _ _

pub returns-in_err-receive-clause-asks : goal.returns-in_err-receive-clause-asks
returns-in_err-receive-clause-asks g c = record {
  looked_at = λ _. c.in_err-receive.ensures.looked_at refl;
  unsolicited = λ _. c.in_err-receive.ensures.asks refl;
  announced = λ _. c.in_err-receive.ensures.asks_announced refl;
  stray = λ _. c.in_err-receive.ensures.asks_stray refl;
  again = λ _. c.in_err-receive.ensures.asks_again refl;
  held = λ _. c.in_err-receive.ensures.asks_held refl;
  inside = λ _. c.in_err-receive.ensures.asks_inside refl;
}

pub returns-in_err-receive-clause-memory : goal.returns-in_err-receive-clause-memory
returns-in_err-receive-clause-memory g c = λ honest failed spares.
    let told = is_told store.Memory c.in_err-receive.field-0.0 c.from_residual.result (search rules) failed in
    record {
      idle = c.in_err-receive.ensures.memory_idle honest told spares;
      some = c.in_err-receive.ensures.memory honest told spares;
      named = c.in_err-receive.ensures.memory_named honest told spares;
      exhausted_first = λ outputs_honest. c.in_err-receive.ensures.exhausted_first honest outputs_honest told spares;
    }

pub returns-clause-lanes : goal.returns-clause-lanes
returns-clause-lanes g c = lanes_answered _ _ _ _ c.in_ok-receive.ensures.lanes

pub returns-clause-outputs : goal.returns-clause-outputs
returns-clause-outputs g c = outputs_answered _ _ _ _ _ _ c.in_ok-receive.ensures.outputs

pub returns-in_err-receive-clause-lanes : goal.returns-in_err-receive-clause-lanes
returns-in_err-receive-clause-lanes g c =
    lanes_told fault_of store.Device c.in_err-receive.field-0.0 c.from_residual.result (search rules) c.in_err-receive.ensures.lanes

pub returns-in_err-receive-clause-outputs : goal.returns-in_err-receive-clause-outputs
returns-in_err-receive-clause-outputs g c =
    outputs_told fault_of store.Exhausted store.Device c.in_err-receive.field-0.0 c.from_residual.result (told_apart c.in_err-receive.field-0.0) (search rules)
    c.in_err-receive.ensures.outputs

pub returns-in_err-receive-clause-received : goal.returns-in_err-receive-clause-received
returns-in_err-receive-clause-received g c = λ _ _. not_answered (fault_of c.in_err-receive.field-0.0) c.from_residual.result _ (search rules)

pub returns-in_err-receive-clause-whole : goal.returns-in_err-receive-clause-whole
returns-in_err-receive-clause-whole g c = not_answered (fault_of c.in_err-receive.field-0.0) c.from_residual.result _ (search rules)

pub returns-in_err-receive-clause-core_unchanged : goal.returns-in_err-receive-clause-core_unchanged
returns-in_err-receive-clause-core_unchanged g c = on_err c.from_residual.result c.in_err-receive.ensures.unchanged

pub returns-in_err-receive-clause-actions_unchanged : goal.returns-in_err-receive-clause-actions_unchanged
returns-in_err-receive-clause-actions_unchanged g c = on_err c.from_residual.result c.in_err-receive.ensures.actions_unchanged

pub returns-in_err-receive-clause-named : goal.returns-in_err-receive-clause-named
returns-in_err-receive-clause-named g c =
    err_told (fault_of c.in_err-receive.field-0.0) c.from_residual.result IsStoreFault (search rules) (is_stores c.in_err-receive.field-0.0)

pub returns-in_err-receive-clause-faults : goal.returns-in_err-receive-clause-faults
returns-in_err-receive-clause-faults g c =
    let may = g.L.Lanes.may_fault in
    let also = g.O.Outputs.may_fault in
    err_told (fault_of c.in_err-receive.field-0.0) c.from_residual.result (λ f. IsTrue (may_tell may f) ⊎ IsTrue (may_tell also f)) (search rules)
    (either_told may also c.in_err-receive.field-0.0 c.in_err-receive.ensures.faults)

pub returns-in_err-receive-clause-device : goal.returns-in_err-receive-clause-device
returns-in_err-receive-clause-device g c = λ failed.
    c.in_err-receive.ensures.device (is_told store.Device c.in_err-receive.field-0.0 c.from_residual.result (search rules) failed)
