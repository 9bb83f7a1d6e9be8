use Rattle.std.proofs.Common.{◌≡◌}
use Rattle.dnp_pointdb.specs.Database as spec
use Rattle.dnp_pointdb.proofs.Mapped.{done}
use Rattle.dnp_pointdb.proofs.database.lose_in.Given as goal

abbrev pub invariant-loop-bank : goal.invariant-loop-bank
invariant-loop-bank l = l.bank-items ≡ done (λ bs. spec.updated spec.lost_block bs l.fn.number) l.bank-index l.fn.banks
