use Rattle.std.proofs.Common.{◌<◌, length, ap, List, arith}
use Rattle.dnp_pointdb.specs.declared.state.BlockState.{BlockState}
use Rattle.dnp_pointdb.proofs.Orders.{order_kept, extents-put}
use Rattle.dnp_pointdb.proofs.bank.Bank.put.Goals as goal

pub invariant_of-self : goal.invariant_of-self
invariant_of-self c =
    let inside : c.args.block < length c.self.inside.blocks.items = omega (arith, c.requires.block, ap (λ (bs : List BlockState). length bs) c.self.view_is) in
    order_kept _ _ c.self.inside.order.items c.self.invariant
    (extents-put c.self.inside.blocks.items c.args.block c.set.new.self c.index_mut.result.now c.args.place c.args.state inside c.index_mut.ensures.value c.set.ensures)
