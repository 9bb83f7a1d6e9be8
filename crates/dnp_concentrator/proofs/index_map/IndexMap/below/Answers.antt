use Rattle.std.proofs.Common.{List, sym, subst, ◌∙◌, ap}
use Rattle.dnp_concentrator.specs.declared.limits.TheConstants.{MAX_SUBSTATIONS}
use Rattle.dnp_concentrator.specs.declared.order.SpanPlace.{SpanPlace}
use Rattle.dnp_concentrator.specs.declared.span.Spans.{Spans}
use Rattle.dnp_concentrator.specs.IndexMap.{index_below}
use Rattle.dnp_concentrator.specs.steps.Order.{IsOrder}
use Rattle.dnp_concentrator.proofs.Mapping.{station_below}
use Rattle.dnp_concentrator.proofs.Orders.{order_rising}
use Rattle.dnp_concentrator.proofs.index_map.IndexMap.below.Goals as goal

pub find-requires : goal.find-requires
find-requires c =
    order_rising c.args.kind c.self.inside.spans.items c.of.result.now
    (subst (λ (order : List SpanPlace). IsOrder c.args.kind c.self.inside.spans.items order) (sym c.of.ensures) (c.self.invariant.2 c.args.kind))

pub returns-clause-value : goal.returns-clause-value
returns-clause-value c =
    let o : IsOrder c.args.kind c.self.inside.spans.items c.of.result.now =
    subst (λ (order : List SpanPlace). IsOrder c.args.kind c.self.inside.spans.items order) (sym c.of.ensures) (c.self.invariant.2 c.args.kind) in
    c.find.ensures c.args.kind c.self.inside.spans.items o ∙ ap (λ (s : List Spans). index_below s c.args.kind c.args.index) c.self.view_is

pub returns-clause-substation : goal.returns-clause-substation
returns-clause-substation c =
    let o : IsOrder c.args.kind c.self.inside.spans.items c.of.result.now =
    subst (λ (order : List SpanPlace). IsOrder c.args.kind c.self.inside.spans.items order) (sym c.of.ensures) (c.self.invariant.2 c.args.kind) in
    station_below c.self.inside.spans.items c.args.kind c.args.index c.find.result MAX_SUBSTATIONS
    (sym (c.find.ensures c.args.kind c.self.inside.spans.items o)) c.self.invariant.1
