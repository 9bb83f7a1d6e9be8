use Rattle.std.proofs.Common.{rules, ◌≡◌, arith, ◌+◌, List, [], ◌∷◌, ◌++◌, refl, sym, ◌∙◌, ap, subst, Vec, Global}
use Rattle.std.proofs.lemmas.List.Sorted.{IsNonDecreasingBy-from_sort_by_key}
use Rattle.dnp_concentrator.specs.declared.order.SpanPlace.{SpanPlace}
use Rattle.dnp_concentrator.specs.declared.span.Span.{Span}
use Rattle.dnp_concentrator.proofs.Orders.{IsPlaced, none_placed, place_pushed, place_skipped, order_sorted}
use Rattle.dnp_concentrator.proofs.order.order_of.Goals as goal
use Rattle.dnp_concentrator.proofs.order.order_of.Goals.{then-span-gt0+in_ok-push, else-span-gt0}

pub loop-number-init : goal.loop-number-init
loop-number-init c =
    subst (λ (order : List SpanPlace). IsPlaced c.args.kind c.args.spans.now 0 order) (sym c.new-order.ensures.items) (none_placed c.args.kind c.args.spans.now)

pub loop-number-preserved : goal.loop-number-preserved
loop-number-preserved c = elim c.if-span-gt0.branch [
  | then-span-gt0+in_ok-push w ↦
      let items : c.if-span-gt0.order.items ≡ c.loop-number.order.items ++ _ ∷ [] =
      ap (λ (v : Vec SpanPlace Global). v.items) w.order-is ∙ w.in_ok-push.ensures.items in
      subst (λ (order : List SpanPlace). IsPlaced c.args.kind c.args.spans.now (c.loop-number.number + 1) order) (sym items)
      (place_pushed c.args.kind c.args.spans.now c.loop-number.number c.loop-number.order.items _ _ c.loop-number.invariant c.loop-number-test.true
      refl w.if-span-gt0.true (ap (λ (s : Span). s.base) c.of-span.ensures) (ap (λ (s : Span). s.count) c.of-span.ensures))
  | else-span-gt0 w ↦
      let none : c.of-span.result.count ≡ 0 = omega (arith, w.if-span-gt0.false) in
      subst (λ (v : Vec SpanPlace Global). IsPlaced c.args.kind c.args.spans.now (c.loop-number.number + 1) v.items) (sym w.order-is)
      (place_skipped c.args.kind c.args.spans.now c.loop-number.number c.loop-number.order.items _ c.loop-number.invariant c.loop-number-test.true
      (ap (λ (s : Span). s.count) (sym c.of-span.ensures) ∙ none))
]

pub returns : goal.returns
returns c =
    order_sorted c.args.kind c.args.spans.now c.loop-number.number c.loop-number.order.items c.sort_unstable_by_key.new.self.items c.loop-number.invariant
    (omega (arith, c.loop-number-test.false)) c.sort_unstable_by_key.ensures.permutation
    (IsNonDecreasingBy-from_sort_by_key (λ (place : SpanPlace). place.first) _ c.sort_unstable_by_key.ensures.sorted (λ a r q k. search rules))
    c.requires.apart
