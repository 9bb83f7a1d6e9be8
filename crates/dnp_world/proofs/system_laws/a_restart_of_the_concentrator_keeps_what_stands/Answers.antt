-- The laws that the body calls are what the lemma asks for.
use Rattle.dnp_world.proofs.BelowKeeps.{Grounds}
use Rattle.dnp_world.proofs.Restarting.{RestartLaws, concentrator_restarts}
use Rattle.dnp_world.proofs.system_laws.a_restart_of_the_concentrator_keeps_what_stands.Goals as goal

grounds_of : goal.After-events_without_a_sink_are_moves → Grounds
grounds_of c = record {
  turns = record { kept = c.lists_are_of_links.ensures.kept; fate = c.lists_are_of_links.ensures.fate };
  happens = c.events_without_a_sink_are_moves.ensures.event;
}

restarts_of : goal.After-events_without_a_sink_are_moves → RestartLaws
restarts_of c = record { restarts = c.events_without_a_sink_are_moves.ensures.restarted }

pub returns : goal.returns
returns c = concentrator_restarts (grounds_of c) (restarts_of c)
