use Rattle.dnp_pointdb.proofs.Runs.{run}
use Rattle.dnp_pointdb.proofs.laws.a_run_makes_what_happened.Goals as goal

pub returns : goal.returns
returns c = run
