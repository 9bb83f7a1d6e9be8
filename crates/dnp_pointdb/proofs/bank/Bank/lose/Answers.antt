use Rattle.std.proofs.Common.{◌<◌, ◌≤◌, length, set, ap, sym, ◌∙◌, List, arith}
use Rattle.dnp_pointdb.specs.declared.state.BlockState.{BlockState}
use Rattle.dnp_pointdb.specs.Database.{lost_block, updated}
use Rattle.dnp_pointdb.proofs.Lookups.{updated-in, updated-past}
use Rattle.dnp_pointdb.proofs.Orders.{order_kept, extents-lost}
use Rattle.dnp_pointdb.proofs.bank.Bank.lose.Goals as goal

pub invariant_of-self : goal.invariant_of-self
invariant_of-self c =
    let inside : c.args.number < length c.self.inside.blocks.items = omega arith in
    order_kept _ _ c.self.inside.order.items c.self.invariant
    (extents-lost c.self.inside.blocks.items c.args.number c.lose.new.self c.index_mut.result.now inside c.index_mut.ensures.value c.lose.ensures)

pub returns-then-number-len : goal.returns-then-number-len
returns-then-number-len c =
    let inside : c.args.number < length c.self.inside.blocks.items = omega arith in
    ap (λ (b : BlockState). set c.self.inside.blocks.items c.args.number b)
    (c.lose.ensures ∙ ap (λ (b : BlockState). lost_block b) c.index_mut.ensures.value)
    ∙ sym (updated-in lost_block c.self.inside.blocks.items c.args.number c.index_mut.result.now inside)
    ∙ ap (λ (bs : List BlockState). updated lost_block bs c.args.number) c.self.view_is

pub returns-else-number-len : goal.returns-else-number-len
returns-else-number-len c =
    let past : length c.self.inside.blocks.items ≤ c.args.number = omega arith in
    sym (updated-past lost_block c.args.self.now c.args.number (omega (arith, ap (λ (bs : List BlockState). length bs) c.self.view_is)))
