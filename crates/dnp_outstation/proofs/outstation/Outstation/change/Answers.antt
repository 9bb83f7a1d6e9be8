use Rattle.std.proofs.Common.{rules, ◌≡◌, Option, Some, Result, Ok, Err, IsTrue, ap, sym, subst, ◌∙◌}
use Rattle.std.specs.Result.{IfErr, IfOk, result_err}
use Rattle.dnp_objects.specs.declared.lane.LaneRow.{LaneRow}
use Rattle.dnp_pointdb.specs.declared.fault.ChangeFault.{ChangeFault}
use Rattle.dnp_outstation.specs.declared.fault.Fault.{Fault}
use Rattle.dnp_outstation.specs.declared.fault.Fault.TheVariants as fault
use Rattle.dnp_outstation.specs.Station.{IsStoreFault, change_fault_of, may_tell}
use Rattle.dnp_outstation.proofs.outstation.Outstation.change.Goals as goal

-- ---- the fault is passed on as it is

is_told : {A B : Type 0} (f e : Fault) (r : Result A Fault) → result_err r ≡ Some e → r ≡ Err f → (let told : Result B Fault = Err e in told) ≡ Err f
is_told f e r told failed = let is : Some e ≡ Some f = sym told ∙ ap result_err failed in cc

not_answered : {A : Type 0} (e : Fault) (r : Result A Fault) (P : A → Type 0) → result_err r ≡ Some e → IfOk r P
not_answered e (Ok x) P told = absurd (cc)
not_answered e (Err f) P told = tt

refused_by : {A : Type 0} (B : Type 0) (made : Result (Option LaneRow) ChangeFault) (e : Fault) (r : Result A Fault) (P : Type 0) → result_err r ≡ Some e
    → IfErr made (λ why. ((let told : Result B Fault = Err e in told) ≡ Err (change_fault_of why)) × P) → IfErr made (λ why. (r ≡ Err (change_fault_of why)) × P)
refused_by B (Ok row) e r P told refused = tt
refused_by B (Err why) e (Ok x) P told refused = absurd (cc)
refused_by B (Err why) e (Err f) P told refused =
    let same : f ≡ e = cc in
    let first = refused.0 in
    let is : e ≡ change_fault_of why = cc in
    (ap Err (same ∙ is), refused.1)

told_so : {A : Type 0} (made : Result (Option LaneRow) ChangeFault) (e : Fault) (r : Result A Fault) (P : Fault → Type 0) → result_err r ≡ Some e
    → IfOk made (λ _. P e) → IfOk made (λ _. IfErr r P)
told_so (Err why) e r P told is = tt
told_so (Ok row) e (Ok x) P told is = absurd (cc)
told_so (Ok row) e (Err f) P told is = let same : e ≡ f = cc in subst P same is

pub returns-in_err-change_into-clause-refused : goal.returns-in_err-change_into-clause-refused
returns-in_err-change_into-clause-refused g c =
    refused_by _ _ c.in_err-change_into.field-0.0 c.from_residual.result _ (search rules) c.in_err-change_into.ensures.refused

pub returns-in_err-change_into-clause-changed : goal.returns-in_err-change_into-clause-changed
returns-in_err-change_into-clause-changed g c = λ _. not_answered c.in_err-change_into.field-0.0 c.from_residual.result _ (search rules)

pub returns-in_err-change_into-clause-named : goal.returns-in_err-change_into-clause-named
returns-in_err-change_into-clause-named g c =
    told_so _ c.in_err-change_into.field-0.0 c.from_residual.result IsStoreFault (search rules) c.in_err-change_into.ensures.named

pub returns-in_err-change_into-clause-faults : goal.returns-in_err-change_into-clause-faults
returns-in_err-change_into-clause-faults g c =
    told_so _ c.in_err-change_into.field-0.0 c.from_residual.result (λ f. IsTrue (may_tell g.L.Lanes.may_fault f)) (search rules)
    c.in_err-change_into.ensures.faults

pub returns-in_err-change_into-clause-exhausted : goal.returns-in_err-change_into-clause-exhausted
returns-in_err-change_into-clause-exhausted g c = λ honest failed.
    c.in_err-change_into.ensures.exhausted honest (is_told fault.Exhausted c.in_err-change_into.field-0.0 c.from_residual.result (search rules) failed)

pub returns-in_err-change_into-clause-not_exhausted : goal.returns-in_err-change_into-clause-not_exhausted
returns-in_err-change_into-clause-not_exhausted g c = λ _. not_answered c.in_err-change_into.field-0.0 c.from_residual.result _ (search rules)

pub returns-in_err-change_into-clause-memory : goal.returns-in_err-change_into-clause-memory
returns-in_err-change_into-clause-memory g c = λ honest failed.
    c.in_err-change_into.ensures.memory honest (is_told fault.Memory c.in_err-change_into.field-0.0 c.from_residual.result (search rules) failed)

pub returns-in_err-change_into-clause-unready : goal.returns-in_err-change_into-clause-unready
returns-in_err-change_into-clause-unready g c = λ unready failed.
    c.in_err-change_into.ensures.unready unready (is_told fault.Memory c.in_err-change_into.field-0.0 c.from_residual.result (search rules) failed)
