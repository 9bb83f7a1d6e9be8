-- The clauses are what was proved of openings.
use Rattle.dnp_world.proofs.Opening.{opens_quiet, runs_quiet}
use Rattle.dnp_world.proofs.opening_laws.an_opened_link_is_quiet.Goals as goal

pub returns-clause-event : goal.returns-clause-event
returns-clause-event c = opens_quiet

pub returns-clause-ran : goal.returns-clause-ran
returns-clause-ran c = runs_quiet
