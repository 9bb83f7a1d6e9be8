use Rattle.std.proofs.Common.{length}
use Rattle.dnp_daemons.proofs.script.reason.+taken.Given as goal

abbrev pub decreases-taken : goal.decreases-taken
decreases-taken l = length l.slots.now
