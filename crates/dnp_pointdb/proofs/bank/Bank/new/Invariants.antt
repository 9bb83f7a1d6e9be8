use Rattle.std.proofs.Common.{◌≡◌, map, take}
use Rattle.dnp_pointdb.specs.Database.{new_block}
use Rattle.dnp_pointdb.proofs.bank.Bank.new.Given as goal

abbrev pub invariant-loop-block : goal.invariant-loop-block
invariant-loop-block l = l.states.items ≡ map new_block (take l.block-index l.blocks)
