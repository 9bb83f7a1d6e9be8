use Rattle.std.proofs.Common.{rules, ◌+◌, drop, arith, sym, ◌∙◌, ap, subst}
use Rattle.dnp_concentrator.specs.declared.span.Spans.{Spans}
use Rattle.dnp_concentrator.specs.IndexMap.{span_of}
use Rattle.dnp_concentrator.proofs.Refusals.{IsMet, met_shares, none_before_more, none_shared, rest_is}
use Rattle.dnp_concentrator.proofs.index_map.share_index.Goals as goal

pub loop-number-init : goal.loop-number-init
loop-number-init c = λ i j index d low. absurd (omega arith)

pub returns-then-is_met : goal.returns-then-is_met
returns-then-is_met c =
    let met : IsMet c.args.kind c.of-span.result (drop (c.loop-number.number + 1) c.args.substations.now) =
    subst (IsMet c.args.kind c.of-span.result) (rest_is c.args.substations.now (c.loop-number.number + 1)) (c.is_met.ensures.0 (search rules)) in
    let shared = met_shares c.args.kind c.args.substations.now c.loop-number.number c.index-substations-number.result c.of-span.result c.loop-number-test.true
    c.index-substations-number.is (c.of-span.ensures ∙ ap (λ (s : Spans). span_of s c.args.kind) c.spans.ensures) met in
    (λ h. shared, λ h. search rules)

pub loop-number-preserved : goal.loop-number-preserved
loop-number-preserved c =
    none_before_more c.args.kind c.args.substations.now c.loop-number.number c.index-substations-number.result c.of-span.result c.loop-number.invariant
    c.loop-number-test.true c.index-substations-number.is (c.of-span.ensures ∙ ap (λ (s : Spans). span_of s c.args.kind) c.spans.ensures) (λ met.
    let h = c.is_met.ensures.1 (subst (IsMet c.args.kind c.of-span.result) (sym (rest_is c.args.substations.now (c.loop-number.number + 1))) met) in
    grind (arith, h))

pub returns : goal.returns
returns c = (
  λ no. grind (arith, no),
  λ shares. absurd (none_shared c.args.kind c.args.substations.now c.loop-number.number c.loop-number.invariant
      (omega (arith, c.loop-number-test.false)) shares),
)
