use Rattle.dnp_master.proofs.LinkSteps.{receives}
use Rattle.dnp_master.proofs.laws.what_comes_is_taken_or_passed_over.Goals as goal

pub returns : goal.returns
returns c = receives
