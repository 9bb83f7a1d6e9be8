-- The laws that the body calls are what the lemmas ask for.
use Rattle.dnp_world.proofs.AboveEvents.{AboveLaws, asks_above, centre_hangs_up, centre_ticks, concentrator_hangs_up, concentrator_ticks, damages_above, loses_above, opens_above}
use Rattle.dnp_world.proofs.BelowKeeps.{Grounds}
use Rattle.dnp_world.proofs.system_laws.events_above_keep_what_stands.Goals as goal

grounds_of : goal.After-commands_are_performed_as_they_are_asked → Grounds
grounds_of c = record {
  turns = record { kept = c.lists_are_of_links.ensures.kept; fate = c.lists_are_of_links.ensures.fate };
  happens = c.events_without_a_sink_are_moves.ensures.event;
}

steps_of : goal.After-commands_are_performed_as_they_are_asked → AboveLaws
steps_of c = record {
  open_none = c.a_confirm_releases_what_its_fragment_reported.ensures.opened;
  open_performs = c.commands_are_performed_as_they_are_asked.ensures.opened;
  tick_none = c.a_confirm_releases_what_its_fragment_reported.ensures.ticked;
  tick_performs = c.commands_are_performed_as_they_are_asked.ensures.ticked;
}

pub returns-clause-lost : goal.returns-clause-lost
returns-clause-lost c = loses_above (grounds_of c)

pub returns-clause-damaged : goal.returns-clause-damaged
returns-clause-damaged c = damages_above (grounds_of c)

pub returns-clause-centre_hung_up : goal.returns-clause-centre_hung_up
returns-clause-centre_hung_up c = centre_hangs_up (grounds_of c)

pub returns-clause-concentrator_hung_up : goal.returns-clause-concentrator_hung_up
returns-clause-concentrator_hung_up c = concentrator_hangs_up (grounds_of c)

pub returns-clause-opened : goal.returns-clause-opened
returns-clause-opened c = opens_above (grounds_of c) (steps_of c)

pub returns-clause-centre_ticked : goal.returns-clause-centre_ticked
returns-clause-centre_ticked c = centre_ticks (grounds_of c)

pub returns-clause-concentrator_ticked : goal.returns-clause-concentrator_ticked
returns-clause-concentrator_ticked c = concentrator_ticks (grounds_of c) (steps_of c)

pub returns-clause-asked : goal.returns-clause-asked
returns-clause-asked c = asks_above (grounds_of c)
