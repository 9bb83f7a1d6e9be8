use Rattle.std.proofs.Common.{subst}
use Rattle.dnp_pointdb.specs.Plan.{IsSoundPlan}
use Rattle.dnp_pointdb.proofs.Sound.{new_banks_are_sound}
use Rattle.dnp_pointdb.proofs.database.PointDb.new.Goals as goal

pub invariant_of-result : goal.invariant_of-result
invariant_of-result c =
    new_banks_are_sound c.args.plan c.in_ok-bank_of.field-0 c.in_ok-bank_of-2.field-0 c.in_ok-bank_of-3.field-0
    (subst IsSoundPlan c.plan.view_is c.plan.invariant.0) c.in_ok-bank_of.ensures c.in_ok-bank_of-2.ensures c.in_ok-bank_of-3.ensures

pub returns-clause-sound : goal.returns-clause-sound
returns-clause-sound c =
    new_banks_are_sound c.args.plan c.in_ok-bank_of.field-0 c.in_ok-bank_of-2.field-0 c.in_ok-bank_of-3.field-0
    (subst IsSoundPlan c.plan.view_is c.plan.invariant.0) c.in_ok-bank_of.ensures c.in_ok-bank_of-2.ensures c.in_ok-bank_of-3.ensures
