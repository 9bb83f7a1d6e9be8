use Rattle.std.proofs.Common.{◌≡◌, List, ◌++◌, rules, subst}
use Rattle.std.specs.Prelude.{IsPermutation}
use Rattle.std.proofs.lemmas.List.Sorted.{IsNonDecreasingBy-from_sort_by_key}
use Rattle.dnp_captures.specs.declared.item.Item.{Item}
use Rattle.dnp_captures.specs.Items.{marked_from}
use Rattle.dnp_captures.proofs.item.items_of_octets.Goals as goal

pub returns : goal.returns
returns c =
    let pushed : c.push_lines.new.items.items ≡ c.args.items.items ++ marked_from c.args.marks.now 0 c.in_ok-lines.lines.items = search rules in (
      c.in_ok-lines.lines.items,
      c.in_ok-lines.ensures,
      subst (λ (xs : List Item). IsPermutation xs c.sort_by_key.new.self.items) pushed c.in_ok-sort_by_key.ensures.permutation,
      IsNonDecreasingBy-from_sort_by_key (λ item. item.at) _ c.in_ok-sort_by_key.ensures.sorted (λ a r q k. search rules),
    )
