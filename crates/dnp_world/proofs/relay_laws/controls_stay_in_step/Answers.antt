-- The laws that the body calls are what the lemmas ask for.
use Rattle.std.specs.Prelude.{nat_eq}
use Rattle.dnp_objects.specs.Equality.{command_eq}
use Rattle.dnp_world.proofs.StepHappens.{StepLaws, fresh_in_step, stays_in_step}
use Rattle.dnp_world.proofs.EventTouches.{touches}
use Rattle.dnp_world.proofs.relay_laws.controls_stay_in_step.Goals as goal

laws_of : goal.After-link_law → StepLaws
laws_of c = record {
  sound = c.ids_go_on.ensures.sound;
  low = c.indices_above_are_in_range.ensures;
  commands = record {
    commands = c.equality_is_decided.ensures.commands;
    orders = c.equality_is_decided.ensures.pairs nat_eq command_eq c.equality_is_decided.ensures.numbers c.equality_is_decided.ensures.commands;
    performed = c.link_law.ensures.performed;
  };
}

pub returns-clause-event : goal.returns-clause-event
returns-clause-event c = λ old new el e happens s h. stays_in_step (laws_of c) old new s h (touches old new e happens)

pub returns-clause-at_first : goal.returns-clause-at_first
returns-clause-at_first c = fresh_in_step
