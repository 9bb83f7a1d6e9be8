use Rattle.std.proofs.Common.{subst}
use Rattle.dnp_pointdb.specs.Sound.{IsSoundDatabase}
use Rattle.dnp_pointdb.proofs.database.PointDb.bank.Goals as goal

pub returns-clause-sound : goal.returns-clause-sound
returns-clause-sound c = subst IsSoundDatabase c.self.view_is c.self.invariant
