-- The laws that the body calls are what the lemmas ask for.
use Rattle.dnp_world.proofs.BelowEvents.{loses, hangs_up, restarts, delivers, repeats}
use Rattle.dnp_world.proofs.BelowKeeps.{Grounds}
use Rattle.dnp_world.proofs.BelowSteps.{StepLaws, ticks, reads}
use Rattle.dnp_world.proofs.system_laws.events_below_keep_what_stands.Goals as goal

grounds_of : goal.After-commands_are_performed_as_they_are_asked → Grounds
grounds_of c = record {
  turns = record { kept = c.lists_are_of_links.ensures.kept; fate = c.lists_are_of_links.ensures.fate };
  happens = c.events_without_a_sink_are_moves.ensures.event;
}

steps_of : goal.After-commands_are_performed_as_they_are_asked → StepLaws
steps_of c = record {
  tick_none = c.a_confirm_releases_what_its_fragment_reported.ensures.ticked;
  tick_performs = c.commands_are_performed_as_they_are_asked.ensures.ticked;
  change_none = c.a_confirm_releases_what_its_fragment_reported.ensures.changed;
  change_performs = c.commands_are_performed_as_they_are_asked.ensures.changed;
}

pub returns-clause-lost : goal.returns-clause-lost
returns-clause-lost c = loses (grounds_of c)

pub returns-clause-hung_up : goal.returns-clause-hung_up
returns-clause-hung_up c = hangs_up (grounds_of c)

pub returns-clause-restarted : goal.returns-clause-restarted
returns-clause-restarted c = restarts (grounds_of c)

pub returns-clause-delivered : goal.returns-clause-delivered
returns-clause-delivered c = delivers (grounds_of c)

pub returns-clause-repeated : goal.returns-clause-repeated
returns-clause-repeated c = repeats (grounds_of c)

pub returns-clause-ticked : goal.returns-clause-ticked
returns-clause-ticked c = ticks (grounds_of c) (steps_of c)

pub returns-clause-read : goal.returns-clause-read
returns-clause-read c = reads (grounds_of c) (steps_of c)
