-- Event by event, and list by list.
use Rattle.dnp_world.proofs.JoinedRuns.{one_follows, stop_follows, run_follows, stopped_follows}
use Rattle.dnp_world.proofs.joined_laws.events_are_moves.Goals as goal

pub returns-clause-event : goal.returns-clause-event
returns-clause-event g c =
    λ panel others s new event l shown stands j h. one_follows c.moves_are_promised.ensures g.S.Sink.takes panel shown others s new l event stands j h

pub returns-clause-stopped : goal.returns-clause-stopped
returns-clause-stopped g c =
    λ others s new event l stands j h. stop_follows c.moves_are_promised.ensures g.S.Sink.takes g.S.Sink.keeps others s new l event stands j h

pub returns-clause-runs : goal.returns-clause-runs
returns-clause-runs g c = λ others s new events l stands j h. run_follows c.moves_are_promised.ensures g.S.Sink.takes others s new l events stands j h

pub returns-clause-stops : goal.returns-clause-stops
returns-clause-stops g c =
    λ others s new events done l stands j h. stopped_follows c.moves_are_promised.ensures g.S.Sink.takes g.S.Sink.keeps others s new l events done stands j h
