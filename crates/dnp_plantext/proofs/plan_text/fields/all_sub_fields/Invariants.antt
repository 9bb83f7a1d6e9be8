use Rattle.std.proofs.Common.{◌≡◌, ◌++◌, drop}
use Rattle.std.specs.Option.{option_map}
use Rattle.toml.specs.View.{array_view, items_view}
use Rattle.dnp_plantext.specs.PlanFields.{all_of, sub_fields_of}
use Rattle.dnp_plantext.proofs.plan_text.fields.all_sub_fields.Given as goal

-- what all items give is what stands there and what those to come give
abbrev pub invariant-loop-item : goal.invariant-loop-item
invariant-loop-item l =
    all_of sub_fields_of (array_view l.fn.items)
    ≡ option_map (λ more. l.all.items ++ more) (all_of sub_fields_of (items_view (drop l.item-index l.item-items)))
