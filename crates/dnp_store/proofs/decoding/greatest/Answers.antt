use Rattle.std.proofs.Common.{◌≡◌, ◌<◌, ℕ, [], get_or, inl, inr, length, subst, sym, ◌∙◌, arith}
use Rattle.std.proofs.lemmas.Bool.{cases_eq}
use Rattle.std.proofs.lemmas.List.{get_or_default}
use Rattle.sqlite.specs.Order.{Row}
use Rattle.dnp_store.specs.steps.Shown.{ShowsCountOf}
use Rattle.dnp_store.proofs.decoding.greatest.Goals as goal

pub loop-row-preserved : goal.loop-row-preserved
loop-row-preserved c =
    let i = c.loop-row.row-index in
    let rows = c.args.rows.now in
    let table = c.args.table.now in
    let row = c.row-item.result in
    let low : i < length rows = c.loop-row-test.true in
    let here : row ≡ get_or rows i [] = c.row-item.is ∙ get_or_default rows i row [] low in
    let more = c.with_noted-greatest.ensures.more in
    record {
      most = λ k less id n shows. elim (cases_eq k i) [
        | inl same ↦ c.with_noted-greatest.ensures.noted id n (subst (λ (r : Row). ShowsCountOf table r id n) (sym here)
            (subst (λ (j : ℕ). ShowsCountOf table (get_or rows j []) id n) same shows))
        | inr other ↦ (let before = c.loop-row.invariant.most k (omega arith) id n shows in omega arith)
      ];
      least = λ n h. c.with_noted-greatest.ensures.least n (c.loop-row.invariant.least n h)
          (λ id m shows. h i low id m (subst (λ (r : Row). ShowsCountOf table r id m) here shows));
    }
