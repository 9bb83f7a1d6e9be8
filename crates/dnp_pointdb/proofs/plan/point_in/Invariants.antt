use Rattle.std.proofs.Common.{◌≡◌, drop}
use Rattle.dnp_pointdb.specs.Classes.{point_in}
use Rattle.dnp_pointdb.proofs.plan.point_in.Given as goal

abbrev pub invariant-loop-block : goal.invariant-loop-block
invariant-loop-block l = point_in (drop l.block-index l.blocks) l.index ≡ point_in l.blocks l.index
