use Rattle.std.proofs.Common.{◌≡◌, Err, refl, ap, subst}
use Rattle.std.specs.Prelude.{IsErrAnd}
use Rattle.dnp_objects.specs.declared.store.StoreFault.{StoreFault}
use Rattle.dnp_objects.specs.declared.store.StoreFault.TheVariants as store
use Rattle.dnp_master.specs.Sinks.{fault_of}
use Rattle.dnp_master.specs.declared.fault.MasterFault.TheVariants as master
use Rattle.dnp_concentrator.proofs.receiving_below.append_both.Goals as goal

-- what is told as out of memory was out of memory
memory_stays : (e : StoreFault) → master.Memory ≡ fault_of e → e ≡ store.Memory
memory_stays store.Exhausted is = absurd (cc)
memory_stays store.Memory is = refl
memory_stays store.Device is = absurd (cc)

pub returns-in_err-first-clause-memory : goal.returns-in_err-first-clause-memory
returns-in_err-first-clause-memory g c = λ is asks.
    let told = subst (λ r. IsErrAnd r (λ f. f ≡ fault_of c.in_err-first.field-0.0)) is c.from_residual.ensures.1 in
    c.in_err-first.ensures.memory (ap Err (memory_stays c.in_err-first.field-0.0 told)) asks
