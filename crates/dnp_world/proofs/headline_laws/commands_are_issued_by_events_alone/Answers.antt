-- By what each event touches.
use Rattle.dnp_world.proofs.EventsIssue.{ran_issues, stopped_issues}
use Rattle.dnp_world.proofs.headline_laws.commands_are_issued_by_events_alone.Goals as goal

pub returns-clause-ran : goal.returns-clause-ran
returns-clause-ran c = λ old new events ran. ran_issues events old new ran

pub returns-clause-stopped : goal.returns-clause-stopped
returns-clause-stopped c = λ old new events done stop. stopped_issues events done old new stop
