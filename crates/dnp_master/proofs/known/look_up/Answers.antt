use Rattle.std.proofs.Common.{◌≡◌, ◌<◌, true, List, subst, length, arith}
use Rattle.std.specs.Prelude.{is_some}
use Rattle.std.specs.Option.{option_map}
use Rattle.dnp_pointdb.specs.Classes.{point_in}
use Rattle.dnp_pointdb.specs.declared.point.Block.{Block}
use Rattle.dnp_pointdb.specs.declared.point.Point.{Point}
use Rattle.dnp_master.proofs.KnownPoints.{there}
use Rattle.dnp_master.proofs.known.look_up.Goals as goal

pub returns-then-from-count-clause-known : goal.returns-then-from-count-clause-known
returns-then-from-count-clause-known c = λ index from upto.
    let below : c.loop-number.number < length c.blocks-blocks.result.now = omega arith in
    let found = there c.blocks-blocks.result.now c.loop-number.number c.index-blocks-number.result c.as_slice-count.result.now index below
    c.index-blocks-number.is c.as_slice-count.ensures from upto in
    subst (λ (blocks : List Block). is_some (option_map (λ (point : Point). point.class) (point_in blocks index)) ≡ true) c.blocks-blocks.ensures.value found
