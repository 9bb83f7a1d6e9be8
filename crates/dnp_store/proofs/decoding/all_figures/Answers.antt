use Rattle.std.proofs.Common.{rules, ◌≡◌, ◌<◌, [], ℕ, List, length, length-set, set, get_or, sym, subst, ◌∙◌, arith}
use Rattle.std.proofs.lemmas.List.{get_or_default}
use Rattle.sqlite.specs.Order.{Row}
use Rattle.dnp_objects.specs.declared.limits.TheConstants.{LANES}
use Rattle.dnp_store.specs.QueueTables.{Figures, no_figures}
use Rattle.dnp_store.specs.steps.Shown.{AreInRange, ShowsFigures}
use Rattle.dnp_store.proofs.Pushing.{set_each}
use Rattle.dnp_store.proofs.decoding.all_figures.Goals as goal

pub loop-number-preserved : goal.loop-number-preserved
loop-number-preserved c =
    let n = c.loop-number.number in
    let rows = c.args.rows.now in
    let before = c.loop-number.figures in
    let f = c.in_ok-f.f in
    let nine : length before ≡ LANES = c.loop-number.invariant.nine in
    let row = c.index-rows-number.result in
    let low : n < length rows = omega arith in
    let fits : n < length before = omega arith in
    let here : row ≡ get_or rows n [] = c.index-rows-number.is ∙ get_or_default rows n row [] low in
    let told : ShowsFigures row n f × AreInRange f = search rules in
    let shows : ShowsFigures (get_or rows n []) n f = subst (λ (r : Row). ShowsFigures r n f) here told.0 in
    record {
      nine = length-set before n f ∙ nine;
      shown = λ k less. set_each (λ (j : ℕ) (e : Figures). ShowsFigures (get_or rows j []) j e) before f no_figures n k fits shows
          (λ apart. c.loop-number.invariant.shown k (omega arith));
      in_range = λ k less. set_each (λ (j : ℕ) (e : Figures). AreInRange e) before f no_figures n k fits told.1
          (λ apart. c.loop-number.invariant.in_range k (omega arith));
    }
