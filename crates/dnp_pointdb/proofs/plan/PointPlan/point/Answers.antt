use Rattle.std.proofs.Common.{List, map, IfSome, Option, sym, subst}
use Rattle.dnp_pointdb.specs.declared.point.Block.{Block}
use Rattle.dnp_pointdb.specs.declared.order.SortedBlocks.{SortedBlocks}
use Rattle.dnp_pointdb.specs.declared.order.BlockPlace.{BlockPlace}
use Rattle.dnp_pointdb.specs.Plan.{blocks_of}
use Rattle.dnp_pointdb.specs.steps.Order.{extent_of, IsOrder, AreOrders}
use Rattle.dnp_pointdb.proofs.plan.PointPlan.point.Goals as goal

pub point_by-requires : goal.point_by-requires
point_by-requires c =
    let orders : AreOrders c.self.inside.blocks c.in-Some.orders =
    subst (λ (o : Option SortedBlocks). IfSome o (AreOrders c.self.inside.blocks)) c.in-Some.is c.self.invariant.1 in
    subst (λ (bs : List Block). IsOrder (map extent_of bs) c.of.result.now) (sym c.of-in-Some.ensures)
    (subst (λ (ps : List BlockPlace). IsOrder (map extent_of (blocks_of c.self.inside.blocks c.args.kind)) ps) (sym c.of.ensures) (orders c.args.kind))
