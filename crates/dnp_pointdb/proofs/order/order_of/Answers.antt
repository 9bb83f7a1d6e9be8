use Rattle.std.proofs.lemmas.List.Sorted.{IsNonDecreasingBy-from_sort_by_key}
use Rattle.std.proofs.Common.{rules, ◌≡◌, ℕ, length, map, arith, ◌+◌, ◌<◌, List, [], ◌∷◌, ◌++◌, refl, sym, ◌∙◌, ap, subst, Vec, Global}
use Rattle.std.proofs.lemmas.List.{length-map}
use Rattle.dnp_pointdb.specs.declared.order.BlockPlace.{BlockPlace}
use Rattle.dnp_pointdb.specs.declared.point.Point.{Point}
use Rattle.dnp_pointdb.specs.steps.Order.{Extent, extent_of}
use Rattle.dnp_pointdb.proofs.Orders.{Placed, extent_at, placed_push, placed_skip, placed_sorted}
use Rattle.dnp_pointdb.proofs.order.order_of.Goals as goal
use Rattle.dnp_pointdb.proofs.order.order_of.Goals.{then-count-gt0+in_ok-push, else-count-gt0}

pub loop-number-preserved : goal.loop-number-preserved
loop-number-preserved c =
    let es : List Extent = map extent_of c.args.blocks.now in
    let n : ℕ = c.loop-number.number in
    let lt : n < length es = omega (arith, length-map c.args.blocks.now extent_of) in
    let at = λ (d : Extent). extent_at c.args.blocks.now n c.index-blocks-number.result d c.loop-number-test.true c.index-blocks-number.is in
    elim c.if-count-gt0.branch [
      | then-count-gt0+in_ok-push w ↦
          let items : c.if-count-gt0.order.items ≡ c.loop-number.order.items ++ _ ∷ [] =
          ap (λ (v : Vec BlockPlace Global). v.items) w.order-is ∙ w.in_ok-push.ensures.items in
          subst (λ (order : List BlockPlace). Placed es (n + 1) order) (sym items) (placed_push es n c.loop-number.order.items _ c.loop-number.invariant lt
          refl w.if-count-gt0.true
          (λ d. (ap (λ (e : Extent). e.first) (at d), ap (λ (e : Extent). e.count) (at d) ∙ ap (λ (ps : List Point). length ps) (sym c.as_slice-count.ensures))))
      | else-count-gt0 w ↦
          let none : length c.index-blocks-number.result.points ≡ 0 =
          ap (λ (ps : List Point). length ps) (sym c.as_slice-count.ensures) ∙ omega (arith, w.if-count-gt0.false) in
          subst (λ (v : Vec BlockPlace Global). Placed es (n + 1) v.items) (sym w.order-is) (placed_skip es n c.loop-number.order.items c.loop-number.invariant
          (λ d. ap (λ (e : Extent). e.count) (at d) ∙ none))
    ]

pub returns : goal.returns
returns c =
    placed_sorted (map extent_of c.args.blocks.now) c.loop-number.number c.loop-number.order.items c.sort_unstable_by_key.new.self.items c.loop-number.invariant
    (omega (arith, length-map c.args.blocks.now extent_of)) c.sort_unstable_by_key.ensures.permutation
    (IsNonDecreasingBy-from_sort_by_key (λ (place : BlockPlace). place.first) _ c.sort_unstable_by_key.ensures.sorted (λ a r q k. search rules))
    c.requires
