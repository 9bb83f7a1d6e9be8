-- One header more, the first that can't be read, and the end.
use Rattle.std.proofs.Common.{◌≡◌, ℕ, List, ◌++◌, ◌∷◌, [], drop, subst, sym, rules}
use Rattle.std.specs.Prelude.{Ok, Err}
use Rattle.std.proofs.lemmas.List.{take_rest}
use Rattle.dnp_standard.specs.Headers.{block_at}
use Rattle.dnp_standard.specs.Walks.{placed}
use Rattle.dnp_standard.proofs.Walking.{so_far_more, so_far_stop, so_far_end}
use Rattle.dnp_standard.proofs.walk.walk_from.Goals as goal

pub headers-preserved : goal.headers-preserved
headers-preserved c =
    let fragment = c.args.fragment.now in
    let place = c.headers.place in
    let block = c.in-Ok.block in
    let is : block_at c.args.carried (drop place fragment) ≡ Ok block =
    subst (λ (xs : List ℕ). block_at c.args.carried xs ≡ Ok block) (take_rest fragment place) (sym c.in-Ok.ensures.value) in
    so_far_more c.args.carried fragment c.args.begin place c.headers.blocks.items c.push.new.self.items block c.headers.invariant
    c.headers-test.true is c.in_ok-push-in-Ok.ensures.items

pub returns-in-Err : goal.returns-in-Err
returns-in-Err c =
    let fragment = c.args.fragment.now in
    let place = c.headers.place in
    let is : block_at c.args.carried (drop place fragment) ≡ Err c.in-Err.fault =
    subst (λ (xs : List ℕ). block_at c.args.carried xs ≡ Err c.in-Err.fault) (take_rest fragment place) (sym c.in-Err.ensures.value) in
    so_far_stop c.args.carried fragment c.args.begin place c.headers.blocks.items c.in-Err.fault c.headers.invariant c.headers-test.true is

pub returns : goal.returns
returns c =
    so_far_end c.args.carried c.args.fragment.now c.args.begin c.headers.place c.headers.blocks.items c.headers.invariant c.headers-test.false
