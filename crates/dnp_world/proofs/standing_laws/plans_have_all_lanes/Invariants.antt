-- Those so far have them.
use Rattle.std.proofs.Common.{ℕ, ◌<◌, get_or}
use Rattle.dnp_concentrator.specs.declared.plan.SubPlan.{SubPlan}
use Rattle.dnp_world.specs.NewSystems.{HasAllLanes}
use Rattle.dnp_world.proofs.standing_laws.plans_have_all_lanes.Given as goal

abbrev pub invariant-loop-substation : goal.invariant-loop-substation
invariant-loop-substation l = (k : ℕ) (d : SubPlan) → k < l.substation-index → HasAllLanes (get_or l.substation-items k d)
