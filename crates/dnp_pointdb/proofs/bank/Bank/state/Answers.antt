use Rattle.std.proofs.Common.{◌≡◌, length, get_or, sym, ◌∙◌, ap, Some, None, List, arith}
use Rattle.dnp_pointdb.specs.declared.state.BlockState.{BlockState}
use Rattle.dnp_pointdb.specs.steps.Order.{extents, place_in}
use Rattle.dnp_pointdb.proofs.Lookups.{lookup_lacks}
use Rattle.dnp_pointdb.proofs.Changes.{in_blocks, in_points_of, state_in-place}
use Rattle.dnp_pointdb.proofs.bank.Bank.state.Goals as goal

pub returns-in_err-block : goal.returns-in_err-block
returns-in_err-block c =
    let lacks : place_in (extents c.args.self.now) c.args.index ≡ None = sym c.find.ensures ∙ c.in_err-block.was in
    c.from_residual.ensures ∙ sym ((lookup_lacks c.args.self.now c.args.index lacks).state)

pub index-requires : goal.index-requires
index-requires c =
    let at : place_in (extents c.args.self.now) c.args.index ≡ Some (c.in_ok-block.block, c.in_ok-block.place) = sym c.find.ensures ∙ c.in_ok-block.was in
    omega (arith, in_blocks c.args.self.now c.args.index c.in_ok-block.block c.in_ok-block.place at, ap (λ (bs : List BlockState). length bs) c.self.view_is)

pub state-requires : goal.state-requires
state-requires c =
    let at : place_in (extents c.args.self.now) c.args.index ≡ Some (c.in_ok-block.block, c.in_ok-block.place) = sym c.find.ensures ∙ c.in_ok-block.was in
    let is : c.index.result.now ≡ get_or c.args.self.now c.in_ok-block.block c.index.result.now =
    c.index.ensures ∙ ap (λ (bs : List BlockState). get_or bs c.in_ok-block.block c.index.result.now) c.self.view_is in
    in_points_of c.args.self.now c.args.index c.in_ok-block.block c.in_ok-block.place c.index.result.now at is

pub returns : goal.returns
returns c =
    let at : place_in (extents c.args.self.now) c.args.index ≡ Some (c.in_ok-block.block, c.in_ok-block.place) = sym c.find.ensures ∙ c.in_ok-block.was in
    let is : c.index.result.now ≡ get_or c.args.self.now c.in_ok-block.block c.index.result.now =
    c.index.ensures ∙ ap (λ (bs : List BlockState). get_or bs c.in_ok-block.block c.index.result.now) c.self.view_is in
    sym (state_in-place c.args.self.now c.args.index c.in_ok-block.block c.in_ok-block.place c.index.result.now c.state.result at is c.state.ensures)
