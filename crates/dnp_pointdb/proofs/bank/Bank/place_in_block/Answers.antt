use Rattle.std.proofs.Common.{◌≡◌, ◌<◌, ◌-◌, ℕ, List, length, get_or, Some, sym, ◌∙◌, ap, subst, arith}
use Rattle.dnp_pointdb.specs.declared.state.BlockState.{BlockState}
use Rattle.dnp_pointdb.specs.steps.Order.{AreApart, extents}
use Rattle.dnp_pointdb.proofs.Lookups.{lookup_block}
use Rattle.dnp_pointdb.proofs.bank.Bank.place_in_block.Goals as goal

pub returns-then-place-as_slice : goal.returns-then-place-as_slice
returns-then-place-as_slice c =
    let blocks = c.args.self.now in
    let block = c.in_ok-block.block.now in
    let same : c.deref.result.now ≡ blocks = c.deref.ensures.value ∙ c.self.view_is in
    let found = c.in_ok-block.ensures.lookup.3 in
    let inside : c.args.number < length blocks = omega (arith, found.0, ap (λ (bs : List BlockState). length bs) same) in
    let is : block ≡ get_or blocks c.args.number block = found.1 block ∙ ap (λ (bs : List BlockState). get_or bs c.args.number block) same in
    let place : c.from-place.result ≡ c.args.index - block.base = c.from-place.ensures ∙ c.in_ok-checked_sub.ensures.1 in
    let apart : AreApart (extents blocks) = subst (λ (bs : List BlockState). AreApart (extents bs)) c.self.view_is c.self.invariant.apart in
    let high : c.args.index - block.base < length block.points =
    omega (arith, c.if-place-as_slice.true, place, ap (λ ps. length ps) c.as_slice.ensures) in
    lookup_block blocks c.args.index c.args.number block apart inside is c.in_ok-checked_sub.ensures.0 high
    ∙ ap (λ (p : ℕ). Some (c.args.number, p)) (sym place)
