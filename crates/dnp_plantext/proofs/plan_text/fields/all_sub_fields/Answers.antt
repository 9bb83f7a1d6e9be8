use Rattle.std.proofs.Common.{rules, ◌≡◌, ◌++◌, ◌∷◌, [], sym, ap, ◌∙◌}
use Rattle.toml.specs.View.{view}
use Rattle.toml.specs.declared.value.Value.{Value}
use Rattle.dnp_plantext.specs.PlanFields.{sub_fields_of}
use Rattle.dnp_plantext.proofs.PlanLists.{item_more}
use Rattle.dnp_plantext.proofs.plan_text.fields.all_sub_fields.Goals as goal

pub loop-item-preserved : goal.loop-item-preserved
loop-item-preserved c =
    let is = ap (λ (v : Value). sub_fields_of (view v)) (sym c.item-item.is) ∙ sym c.in_ok-fields.ensures ∙ c.in-Some.is in
    let grown : c.push.new.self.items ≡ c.loop-item.all.items ++ c.in-Some.fields ∷ [] = search rules in
    rw grown (item_more sub_fields_of c.deref-item-items.result.now c.loop-item.item-index c.item-item.result c.loop-item.all.items
    c.in-Some.fields _ c.loop-item-test.true is c.loop-item.invariant)
