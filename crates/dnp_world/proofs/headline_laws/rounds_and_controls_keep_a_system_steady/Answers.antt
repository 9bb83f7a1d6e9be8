-- Their events make no row.
use Rattle.dnp_world.specs.Centres.{centre_of, seen_at}
use Rattle.dnp_world.specs.Wholes.{seen_by}
use Rattle.dnp_world.proofs.Both.{rows_follow}
use Rattle.dnp_world.proofs.Lasting.{LastingLaws, calm_control, calm_run, calm_stop, ran_round, rests, round_makes_none}
use Rattle.dnp_world.proofs.SystemRounds.{IsOfRound, stops_round}
use Rattle.dnp_world.proofs.headline_laws.rounds_and_controls_keep_a_system_steady.Goals as goal

laws_of : goal.After-lists_are_of_links → LastingLaws
laws_of c = record {
  goes = c.every_event_keeps_both_steady.ensures;
  rows = rows_follow c.rows_are_made_by_events_alone.ensures;
  joined = c.lists_are_of_links.ensures.joined;
}

pub returns-clause-rests : goal.returns-clause-rests
returns-clause-rests c = λ old new s same. rests old new s same

pub returns-clause-round : goal.returns-clause-round
returns-clause-round c = λ on old new s round.
    calm_run (laws_of c) (IsOfRound on) (round_makes_none on) old new s (ran_round (seen_at (centre_of on)) on old new round)

pub returns-clause-round_stopped : goal.returns-clause-round_stopped
returns-clause-round_stopped c = λ on old new s stop.
    calm_stop (laws_of c) (IsOfRound on) (round_makes_none on) old new s (stops_round (seen_at (centre_of on)) on old new stop)

pub returns-clause-control : goal.returns-clause-control
returns-clause-control c = λ centre id old new result s ends. calm_control (laws_of c) (seen_by centre) centre id old new result s ends
