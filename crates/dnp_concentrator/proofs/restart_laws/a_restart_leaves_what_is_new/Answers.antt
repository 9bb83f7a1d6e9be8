use Rattle.std.proofs.Common.{refl, ap, ◌∙◌}
use Rattle.dnp_outstation.specs.Station.{new_core}
use Rattle.dnp_pointdb.specs.Database.{Database}
use Rattle.dnp_concentrator.specs.PointsAbove.{points_above}
use Rattle.dnp_concentrator.proofs.Forgets.{new_forgets}
use Rattle.dnp_concentrator.proofs.HungUp.{new_hung_up}
use Rattle.dnp_concentrator.proofs.restart_laws.a_restart_leaves_what_is_new.Goals as goal

pub returns-clause-new : goal.returns-clause-new
returns-clause-new c = λ plan. record {
  above = ap (λ (d : Database). new_core d plan.times) (new_forgets (points_above plan));
  below = new_hung_up plan.times plan.substations;
}

pub returns-clause-kept : goal.returns-clause-kept
returns-clause-kept c = λ plan core after links others new above below. record {
  above = above ∙ new.above;
  below = below ∙ new.below;
}

pub returns-clause-centre : goal.returns-clause-centre
returns-clause-centre c = λ plan. refl
