-- The laws that the body calls are what the lemmas ask for.
use Rattle.std.specs.Prelude.{nat_eq}
use Rattle.dnp_objects.specs.Equality.{command_eq}
use Rattle.dnp_world.proofs.RelayKeeps.{RelayLaws, relays_above, relays_below}
use Rattle.dnp_world.proofs.relay_laws.relaying_keeps_what_stands.Goals as goal

laws_of : goal.After-link_law → RelayLaws
laws_of c = record {
  turns = record { kept = c.lists_are_of_links.ensures.kept; fate = c.lists_are_of_links.ensures.fate };
  requests = record {
    selects = c.a_command_is_asked_for_as_it_is.ensures.selects;
    operates = c.a_command_is_asked_for_as_it_is.ensures.operates;
    selected = c.a_command_is_asked_for_as_it_is.ensures.selected;
    operated = c.a_command_is_asked_for_as_it_is.ensures.operated;
    goes = c.a_request_goes_by_a_move.ensures;
  };
  commands = record {
    commands = c.equality_is_decided.ensures.commands;
    orders = c.equality_is_decided.ensures.pairs nat_eq command_eq c.equality_is_decided.ensures.numbers c.equality_is_decided.ensures.commands;
    performed = c.link_law.ensures.performed;
  };
}

pub returns-clause-below : goal.returns-clause-below
returns-clause-below c = relays_below (laws_of c)

pub returns-clause-above : goal.returns-clause-above
returns-clause-above c = relays_above (laws_of c)
