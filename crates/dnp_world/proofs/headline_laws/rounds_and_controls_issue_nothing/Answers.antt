-- None of their events does.
use Rattle.dnp_world.specs.Centres.{centre_of, seen_at}
use Rattle.dnp_world.specs.Wholes.{seen_by}
use Rattle.dnp_world.proofs.EventsIssue.{control_issues_none, round_issues_none, stopped_round_issues_none}
use Rattle.dnp_world.proofs.headline_laws.rounds_and_controls_issue_nothing.Goals as goal

pub returns-clause-round : goal.returns-clause-round
returns-clause-round c = λ on old new round. round_issues_none (seen_at (centre_of on)) on old new round

pub returns-clause-round_stopped : goal.returns-clause-round_stopped
returns-clause-round_stopped c = λ on old new stop. stopped_round_issues_none (seen_at (centre_of on)) on old new stop

pub returns-clause-control : goal.returns-clause-control
returns-clause-control c = λ centre id old new result ends. control_issues_none (seen_by centre) centre id old new result ends
