-- By what an event leaves.
use Rattle.std.proofs.Common.{◌∙◌, refl, sym, subst}
use Rattle.dnp_concentrator.specs.PerCentre.{at}
use Rattle.dnp_concentrator.specs.declared.plan.Plan.{Plan}
use Rattle.dnp_world.specs.Reopened.{RestartAsNew, WriteOne}
use Rattle.dnp_world.specs.Systems.{System}
use Rattle.dnp_world.specs.Wholes.{seen_by}
use Rattle.dnp_world.proofs.NewWholes.{fresh_seen}
use Rattle.dnp_world.proofs.stopped_laws.systems_restart_as_new.Goals as goal

pub returns-clause-at_first : goal.returns-clause-at_first
returns-clause-at_first c = λ plan centre queue journal controls orders. record {
  concentrator = c.a_restart_leaves_what_is_new.ensures.new plan;
  indices = refl;
  points = refl;
  centre = c.a_restart_leaves_what_is_new.ensures.centre plan;
  centre_indices = refl;
}

pub returns-clause-whole_at_first : goal.returns-clause-whole_at_first
returns-clause-whole_at_first c = λ plan queues journals controls orders n low.
    subst (RestartAsNew plan) (sym (fresh_seen plan queues journals controls orders n low))
    (returns-clause-at_first c plan n (at n queues) (at n journals) controls (at n orders))

one : goal.After-a_restart_leaves_what_is_new → (plan : Plan) (old new : System) → RestartAsNew plan old → WriteOne old new → RestartAsNew plan new
one c plan old new h w = record {
  concentrator = c.a_restart_leaves_what_is_new.ensures.kept plan old.concentrator.core new.concentrator.core old.concentrator.links
      new.concentrator.links h.concentrator w.concentrator.above w.concentrator.below;
  indices = w.concentrator.indices ∙ h.indices;
  points = w.concentrator.points ∙ h.points;
  centre = w.centre.link ∙ h.centre;
  centre_indices = w.centre.indices ∙ h.centre_indices;
}

pub returns-clause-event : goal.returns-clause-event
returns-clause-event c = λ plan old new event h happens centre low.
    one c plan (seen_by centre old) (seen_by centre new) (h centre low)
    ((c.an_event_writes_one_store.ensures.whole old new event happens).seen centre low)
