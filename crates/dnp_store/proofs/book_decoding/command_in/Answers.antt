use Rattle.std.proofs.Common.{rules, ◌≡◌, pos}
use Rattle.sqlite.specs.declared.types.Value.TheVariants.{Int}
use Rattle.sqlite.specs.Order.{column}
use Rattle.dnp_store.proofs.BookDecoding.{found_block}
use Rattle.dnp_store.proofs.book_decoding.command_in.Goals as goal

pub returns-then-branch-eq0-clause-found : goal.returns-then-branch-eq0-clause-found
returns-then-branch-eq0-clause-found c =
    let is : column c.args.row.now 2 ≡ Int (pos 0) = search rules in
    found_block c.args.row.now c.block_in.result is c.block_in.ensures.found
