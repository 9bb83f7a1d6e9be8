use Rattle.std.proofs.Common.{◌≡◌, map}
use Rattle.dnp_pointdb.specs.Database as spec
use Rattle.dnp_pointdb.proofs.Mapped.{done}
use Rattle.dnp_pointdb.proofs.database.restart_each.Given as goal

abbrev pub invariant-loop-bank : goal.invariant-loop-bank
invariant-loop-bank l = l.bank-items ≡ done (map spec.restarted_block) l.bank-index l.fn.banks
