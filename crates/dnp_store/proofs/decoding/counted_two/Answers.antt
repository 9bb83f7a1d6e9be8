use Rattle.std.proofs.Common.{◌≡◌, inl, inr, length, arith}
use Rattle.dnp_store.proofs.PairNoting.{two_rows}
use Rattle.dnp_store.proofs.decoding.counted_two.Goals as goal

pub returns-in_err-m-in-None-pair_in-clause-found : goal.returns-in_err-m-in-None-pair_in-clause-found
returns-in_err-m-in-None-pair_in-clause-found c apart n m shows =
    let rows = c.args.rows.now in
    let long : length rows ≡ 2 = omega (arith, c.in-len2.len_at_least, c.in-len2.len_below) in
    elim (two_rows c.args.first.now c.args.second.now rows c.row-item-then-rows-lt3.result c.other-item.result _ _ n m long c.row-item-then-rows-lt3.is
    c.other-item.is shows) [
      | inl two ↦ absurd (let none = c.in-None-pair_in.ensures.found two.0 two.1 n m two.2 two.3 two.4 in cc)
      | inr two ↦ absurd (let none = c.in_err-m-in-None-pair_in.ensures.found two.0 two.1 m n two.2 two.3 two.4 in cc)
    ]
