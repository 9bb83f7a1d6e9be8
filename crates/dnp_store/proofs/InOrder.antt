-- A query over one table shows its rows in the order of their ids.
use Rattle.std.proofs.Common.{◌≡◌, List, [], ◌∷◌, map, ap, subst, ◌∙◌, Less, IsPermutation}
use Rattle.std.proofs.lemmas.Cmp.{on_total}
use Rattle.std.proofs.lemmas.List.Sorted.{IsPermutation-trans, IsPermutation-map}
use Rattle.sqlite_keyed.proofs.SortLemmas.{sorted_unique}
use Rattle.sqlite_keyed.proofs.ListLemmas.{map-map, ascending-map, ascending_weaker}
use Rattle.sqlite_value.specs.declared.keys.Key.{Key}
use Rattle.sqlite_sql.proofs.QueryLemmas.{key_cmp_total}
use Rattle.sqlite.specs.Collation.TheVariants.{Binary}
use Rattle.sqlite.specs.Program.{overlay}
use Rattle.sqlite.specs.Query.{IsAnswer, Output, output, output_cmp}
use Rattle.sqlite.specs.Order.{Row, value_cmp}
use Rattle.sqlite.specs.Term.{Term}
use Rattle.sqlite.specs.Tree.{IsAscending, IsTable, Trees, rowid}
use Rattle.std.specs.Prelude.{ℕ, false}
use Rattle.dnp_store.proofs.Opening.{each_one, query, shown_by}

abbrev by_rowid : Key
by_rowid = record { collation = Binary; descending = false }

made : List Term → Row → Output
made project r = (rowid r ∷ [], shown_by project r)

-- the rows, which are a table in some order
pub in_order : (tree : ℕ) (project : List Term) (db : Trees) (rows xs : List Row) → overlay db [] tree ≡ db tree → IsPermutation xs (db tree) → IsTable xs
    → IsAnswer (query tree project) (overlay db []) [] rows → rows ≡ map (shown_by project) xs
unfolding made
in_order tree project db rows xs bare same table a =
    let q = query tree project in
    let one = made project in
    let staged : a.staged ≡ map (λ r. [] ∷ r ∷ []) (db tree) = a.grouped ∙ each_one (λ r. [] ∷ r ∷ []) (overlay db [] tree)
    ∙ ap (map (λ r. [] ∷ r ∷ [])) bare in
    let kept : a.kept ≡ map one (db tree) = a.distinct ∙ ap (map (output q)) staged ∙ map-map (output q) (λ r. [] ∷ r ∷ []) (db tree) in
    let places : IsPermutation (map one xs) (map one (db tree)) = IsPermutation-map one xs (db tree) same in
    let ordered_so : IsPermutation (map one xs) a.ordered =
    IsPermutation-trans (map one xs) (map one (db tree)) a.ordered places (subst (λ k. IsPermutation k a.ordered) kept a.same) in
    let rises : IsAscending (λ x y. output_cmp q x y ≡ Less) (map one xs) =
    ascending-map _ one xs (ascending_weaker (λ x y. value_cmp (rowid x) (rowid y) ≡ Less) (λ x y. output_cmp q (one x) (one y) ≡ Less)
    (λ x y e. rw e) xs table) in
    let ordered : a.ordered ≡ map one xs = sorted_unique (output_cmp q) (on_total (λ (o : Output). o.0) (key_cmp_total (by_rowid ∷ []) 0))
    (map one xs) a.ordered rises ordered_so a.sorted in
    a.shown ∙ ap (map (λ (o : Output). o.1)) ordered ∙ map-map (λ (o : Output). o.1) one xs
