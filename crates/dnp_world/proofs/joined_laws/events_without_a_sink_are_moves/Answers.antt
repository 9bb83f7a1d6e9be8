-- Of an event, and of a restart.
use Rattle.std.specs.Prelude.{[]}
use Rattle.dnp_world.specs.SystemStanding.{no_sink}
use Rattle.dnp_world.proofs.JoinedEvents.{restarts_kept}
use Rattle.dnp_world.proofs.JoinedRuns.{one_follows}
use Rattle.dnp_world.proofs.joined_laws.events_without_a_sink_are_moves.Goals as goal

pub returns-clause-event : goal.returns-clause-event
returns-clause-event c = λ panel s new event l shown stands j h. one_follows c.moves_are_promised.ensures no_sink panel shown [] s new l event stands j h

pub returns-clause-restarted : goal.returns-clause-restarted
returns-clause-restarted c = λ s new l j h. restarts_kept c.moves_are_promised.ensures [] s new l j h
