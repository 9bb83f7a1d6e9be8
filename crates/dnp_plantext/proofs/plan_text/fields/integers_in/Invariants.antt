use Rattle.std.proofs.Common.{◌≡◌, ◌++◌, drop}
use Rattle.std.specs.Option.{option_map}
use Rattle.toml.specs.Data.{as_integer}
use Rattle.toml.specs.View.{array_view, items_view}
use Rattle.dnp_plantext.specs.PlanFields.{all_of}
use Rattle.dnp_plantext.proofs.plan_text.fields.integers_in.Given as goal

-- what all items give is what stands there and what those to come give
abbrev pub invariant-loop-item : goal.invariant-loop-item
invariant-loop-item l =
    all_of as_integer (array_view l.fn.items)
    ≡ option_map (λ more. l.numbers.items ++ more) (all_of as_integer (items_view (drop l.item-index l.item-items)))
