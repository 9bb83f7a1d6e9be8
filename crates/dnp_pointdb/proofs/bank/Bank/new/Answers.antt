use Rattle.std.proofs.Common.{◌≡◌, List, map, sym, ◌∙◌, ap, subst}
use Rattle.std.proofs.lemmas.List.{take_all}
use Rattle.dnp_pointdb.specs.declared.point.Block.{Block}
use Rattle.dnp_pointdb.specs.declared.state.BlockState.{BlockState}
use Rattle.dnp_pointdb.specs.Database.{new_block}
use Rattle.dnp_pointdb.specs.steps.Order.{Extent, extent_of, extents, IsOrder}
use Rattle.dnp_pointdb.proofs.Orders.{apart_plan, extents-new}
use Rattle.dnp_pointdb.proofs.bank.Bank.new.Goals as goal

pub order_of-requires : goal.order_of-requires
order_of-requires c = apart_plan c.args.blocks.now c.requires

pub invariant_of-result : goal.invariant_of-result
invariant_of-result c =
    let all : c.loop-block.states.items ≡ map new_block c.args.blocks.now =
    c.loop-block.invariant ∙ ap (λ (bs : List Block). map new_block bs) (take_all c.loop-block.block-index c.args.blocks.now c.loop-block-test.false) in
    let same : extents c.loop-block.states.items ≡ map extent_of c.args.blocks.now =
    ap (λ (bs : List BlockState). extents bs) all ∙ extents-new c.args.blocks.now in
    subst (λ (es : List Extent). IsOrder es c.in_ok-order.order.items) (sym same) c.in_ok-order.ensures
