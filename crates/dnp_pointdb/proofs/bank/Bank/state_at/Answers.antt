use Rattle.std.proofs.Common.{◌≡◌, length, get_or, ◌∙◌, ap, List, arith}
use Rattle.dnp_pointdb.specs.declared.state.BlockState.{BlockState}
use Rattle.dnp_pointdb.proofs.Changes.{in_blocks, in_points_of, state_in-place}
use Rattle.dnp_pointdb.proofs.bank.Bank.state_at.Goals as goal

pub index-requires : goal.index-requires
index-requires c =
    omega (arith, in_blocks c.args.self.now c.args.index c.args.at.block c.args.at.place c.requires, ap (λ (bs : List BlockState). length bs) c.self.view_is)

pub state-requires : goal.state-requires
state-requires c =
    let block_is : c.index.result.now ≡ get_or c.args.self.now c.args.at.block c.index.result.now =
    c.index.ensures ∙ ap (λ (bs : List BlockState). get_or bs c.args.at.block c.index.result.now) c.self.view_is in
    in_points_of c.args.self.now c.args.index c.args.at.block c.args.at.place c.index.result.now c.requires block_is

pub returns : goal.returns
returns c =
    let block_is : c.index.result.now ≡ get_or c.args.self.now c.args.at.block c.index.result.now =
    c.index.ensures ∙ ap (λ (bs : List BlockState). get_or bs c.args.at.block c.index.result.now) c.self.view_is in
    state_in-place c.args.self.now c.args.index c.args.at.block c.args.at.place c.index.result.now c.state.result c.requires block_is c.state.ensures
