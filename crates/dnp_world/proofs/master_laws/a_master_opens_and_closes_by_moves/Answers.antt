-- An opening is one move, the others a closing.
use Rattle.std.proofs.Common.{refl}
use Rattle.dnp_world.specs.Moves.{Open}
use Rattle.dnp_world.proofs.MasterAsks.{hangs_up, ticks}
use Rattle.dnp_world.proofs.master_laws.a_master_opens_and_closes_by_moves.Goals as goal

pub returns-clause-opened : goal.returns-clause-opened
returns-clause-opened c = λ s l. (Open refl, refl)

pub returns-clause-hung_up : goal.returns-clause-hung_up
returns-clause-hung_up c = hangs_up

pub returns-clause-ticked : goal.returns-clause-ticked
returns-clause-ticked c = ticks
