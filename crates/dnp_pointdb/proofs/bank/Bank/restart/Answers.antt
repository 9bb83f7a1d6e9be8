use Rattle.std.proofs.Common.{◌≡◌, List, map, ◌∙◌, ap, arith, length, take, drop, ◌++◌}
use Rattle.std.proofs.lemmas.List.{take_at}
use Rattle.dnp_pointdb.specs.declared.state.BlockState.{BlockState}
use Rattle.dnp_pointdb.specs.steps.Order.{extents}
use Rattle.dnp_pointdb.specs.Database.{restarted_block}
use Rattle.dnp_pointdb.proofs.Orders.{order_kept, extents-restarted}
use Rattle.dnp_pointdb.proofs.bank.Bank.restart.Goals as goal

pub invariant_of-self : goal.invariant_of-self
invariant_of-self c =
    let new : List BlockState = c.restart_all.new.blocks in
    let size : length new ≡ c.self.inside.blocks.len = omega (arith, c.deref_mut.ensures.len) in
    let whole : take c.self.inside.blocks.len (new ++ drop (length new) c.self.inside.blocks.items) ≡ map restarted_block c.self.inside.blocks.items =
    take_at new (drop (length new) c.self.inside.blocks.items) c.self.inside.blocks.len size
    ∙ c.restart_all.ensures ∙ ap (λ (bs : List BlockState). map restarted_block bs) c.deref_mut.ensures.value in
    order_kept c.self.inside.blocks.items _ c.self.inside.order.items c.self.invariant
    (ap (λ (bs : List BlockState). extents bs) whole ∙ extents-restarted c.self.inside.blocks.items)
