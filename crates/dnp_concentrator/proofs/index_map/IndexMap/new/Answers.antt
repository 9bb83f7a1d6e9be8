use Rattle.std.proofs.Common.{rules, ◌≡◌, List, map, arith, ◌∙◌, sym, subst, length, ap}
use Rattle.std.proofs.lemmas.List.{length-map}
use Rattle.dnp_concentrator.specs.declared.span.Spans.{Spans}
use Rattle.dnp_concentrator.specs.IndexMap.{IsMap}
use Rattle.dnp_concentrator.specs.steps.Order.{AreOrders}
use Rattle.dnp_concentrator.specs.Plan.{spans_of}
use Rattle.dnp_concentrator.proofs.Refusals.{is_map}
use Rattle.dnp_concentrator.proofs.index_map.IndexMap.new.Goals as goal

pub orders_of-requires-clause-map : goal.orders_of-requires-clause-map
orders_of-requires-clause-map c =
    let spans : c.deref.result.now ≡ map spans_of c.as_slice-substations.result.now = c.deref.ensures.value ∙ c.in-Ok.ensures in
    subst (λ (s : List Spans). IsMap s) (sym spans) (is_map (map spans_of c.as_slice-substations.result.now) (search rules) (search rules))

pub invariant_of-result : goal.invariant_of-result
invariant_of-result c =
    let spans : c.in-Ok.spans.items ≡ map spans_of c.as_slice-substations.result.now = c.in-Ok.ensures in (
      subst (λ (s : List Spans). IsMap s) (sym spans) (is_map (map spans_of c.as_slice-substations.result.now) (search rules) (search rules)),
      omega (
        arith,
        ap (λ (s : List Spans). length s) spans,
        length-map c.as_slice-substations.result.now spans_of,
        ap length c.as_slice-substations.ensures,
        c.requires.few,
      ),
      subst (λ (s : List Spans). AreOrders s c.in-Ok-orders_of.orders) c.deref.ensures.value c.in-Ok-orders_of.ensures,
    )
