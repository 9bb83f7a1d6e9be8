-- The laws that the body calls are what the lemmas ask for.
use Rattle.dnp_world.proofs.BelowCalls.{CallLaws, asks, damages, hangs_up_below, opens, ticks_below}
use Rattle.dnp_world.proofs.BelowKeeps.{Grounds}
use Rattle.dnp_world.proofs.system_laws.calls_below_keep_what_stands.Goals as goal

grounds_of : goal.After-points_stay_sound → Grounds
grounds_of c = record {
  turns = record { kept = c.lists_are_of_links.ensures.kept; fate = c.lists_are_of_links.ensures.fate };
  happens = c.events_without_a_sink_are_moves.ensures.event;
}

calls_of : goal.After-points_stay_sound → CallLaws
calls_of c = record {
  open_none = c.a_confirm_releases_what_its_fragment_reported.ensures.opened;
  open_performs = c.commands_are_performed_as_they_are_asked.ensures.opened;
  lost_sound = c.points_stay_sound.ensures.lost;
}

pub returns-clause-damaged : goal.returns-clause-damaged
returns-clause-damaged c = damages (grounds_of c)

pub returns-clause-opened : goal.returns-clause-opened
returns-clause-opened c = opens (grounds_of c) (calls_of c)

pub returns-clause-asked : goal.returns-clause-asked
returns-clause-asked c = asks (grounds_of c)

pub returns-clause-hung_up : goal.returns-clause-hung_up
returns-clause-hung_up c = hangs_up_below (grounds_of c) (calls_of c)

pub returns-clause-ticked : goal.returns-clause-ticked
returns-clause-ticked c = ticks_below (grounds_of c) (calls_of c)
