use Rattle.std.proofs.Common.{◌≡◌, List, map, sym, subst}
use Rattle.dnp_objects.specs.declared.row.Kind.{Kind}
use Rattle.dnp_objects.specs.declared.row.Kind.TheVariants.{Binary, Counter, Analog}
use Rattle.dnp_pointdb.specs.declared.point.Block.{Block}
use Rattle.dnp_pointdb.specs.declared.fault.PlanFault.TheVariants.{Overlap}
use Rattle.dnp_pointdb.specs.Plan.{Plan, IsSoundPlan, blocks_of}
use Rattle.dnp_pointdb.specs.steps.Order.{extent_of, AreApart}
use Rattle.dnp_pointdb.proofs.Orders.{apart_plan}
use Rattle.dnp_pointdb.proofs.plan.orders_of.Goals as goal

-- the blocks of a kind that were handed out are apart
apart : (plan : Plan) (kind : Kind) (blocks : List Block) → IsSoundPlan plan → blocks ≡ blocks_of plan kind → AreApart (map extent_of blocks)
apart plan kind blocks sound is =
    subst (λ (bs : List Block). AreApart (map extent_of bs)) (sym is) (apart_plan (blocks_of plan kind) (λ shared. sound Overlap (kind, shared)))

pub order_of-requires : goal.order_of-requires
order_of-requires c = apart c.args.blocks.now Binary c.of.result.now c.requires c.of.ensures

pub order_of-requires-2 : goal.order_of-requires-2
order_of-requires-2 c = apart c.args.blocks.now Counter c.of-2.result.now c.requires c.of-2.ensures

pub order_of-requires-3 : goal.order_of-requires-3
order_of-requires-3 c = apart c.args.blocks.now Analog c.of-3.result.now c.requires c.of-3.ensures
