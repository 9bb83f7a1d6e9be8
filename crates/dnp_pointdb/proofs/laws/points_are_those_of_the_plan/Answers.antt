use Rattle.dnp_pointdb.proofs.PlanPoints.{class_at-new}
use Rattle.dnp_pointdb.proofs.Plans.{there, nowhere}
use Rattle.dnp_pointdb.proofs.laws.points_are_those_of_the_plan.Goals as goal

pub returns : goal.returns
returns c = record { there = there; nowhere = nowhere; class = class_at-new }
