use Rattle.std.proofs.Common.{ap, subst, Err}
use Rattle.dnp_pointdb.specs.declared.fault.PlanFault.{PlanFault}
use Rattle.dnp_pointdb.specs.Plan.{Plan, plan_of, IsFirst}
use Rattle.dnp_pointdb.proofs.PlanFaults.{one_first}
use Rattle.dnp_pointdb.proofs.plan.PointPlan.new.Goals as goal

pub returns-in-Some-clause-fault : goal.returns-in-Some-clause-fault
returns-in-Some-clause-fault c = subst (λ (plan : Plan). IsFirst plan c.in-Some.fault) c.new-blocks.ensures c.in-Some.ensures

pub returns-in-Some-clause-only_fault : goal.returns-in-Some-clause-only_fault
returns-in-Some-clause-only_fault c = λ fault first.
    let found = subst (λ (plan : Plan). IsFirst plan c.in-Some.fault) c.new-blocks.ensures c.in-Some.ensures in
    ap (λ (f : PlanFault). Err f) (one_first (plan_of c.args.binary.items c.args.counter.items c.args.analog.items) c.in-Some.fault fault found first)
