-- The rows in another order, by their ids.
use Rattle.std.proofs.Common.{subst, rules, List}
use Rattle.std.specs.List.Sorted.{IsPermutation}
use Rattle.std.proofs.lemmas.List.Sorted.{IsNonDecreasingBy-from_sort_by_key}
use Rattle.dnp_eventbuf.specs.declared.numbered.Numbered.{Numbered}
use Rattle.dnp_world.proofs.reading.rows_by_id.Goals as goal

pub returns-clause-rows : goal.returns-clause-rows
returns-clause-rows g c = λ h. record {
  same = subst (λ (rows : List Numbered). IsPermutation rows c.sort_unstable_by_key.new.self.items) (c.in_ok-rows.ensures.rows h)
      c.sort_unstable_by_key.ensures.permutation;
  in_order = IsNonDecreasingBy-from_sort_by_key (λ (x : Numbered). x.id) _ c.sort_unstable_by_key.ensures.sorted (λ a r q k. search rules);
}
