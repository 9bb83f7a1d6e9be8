use Rattle.dnp_pointdb.specs.declared.limits.TheConstants.{INDICES}
use Rattle.dnp_pointdb.proofs.Mapped.{unmarked}
use Rattle.dnp_pointdb.proofs.taken.no_marks.Goals as goal

pub returns : goal.returns
returns c = λ k. unmarked INDICES k
