use Rattle.std.proofs.Common.{◌≡◌}
use Rattle.dnp_pointdb.specs.Database as spec
use Rattle.dnp_pointdb.proofs.Mapped.{done}
use Rattle.dnp_pointdb.proofs.bank.restart_all.Given as goal

abbrev pub invariant-loop-block : goal.invariant-loop-block
invariant-loop-block l = l.blocks ≡ done spec.restarted_block l.block-index l.initial.blocks
