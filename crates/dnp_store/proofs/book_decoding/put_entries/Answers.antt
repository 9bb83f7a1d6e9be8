use Rattle.std.proofs.Common.{arith, ◌≡◌, ◌+◌, ◌<◌, [], ◌∷◌, ℕ, List, length, length-append, get_or, sym, ap, subst, ◌∙◌}
use Rattle.std.proofs.lemmas.List.{get_or_default}
use Rattle.sqlite.specs.Order.{Row}
use Rattle.dnp_controls.specs.declared.book.Entry.{Entry}
use Rattle.dnp_store.specs.BookTables.{FitsControl}
use Rattle.dnp_store.specs.steps.BookShown.{ShowsEntry, no_entry}
use Rattle.dnp_store.proofs.Pushing.{all_from, pushed_each}
use Rattle.dnp_store.proofs.book_decoding.put_entries.Goals as goal

pub loop-number-preserved : goal.loop-number-preserved
loop-number-preserved c =
    let n = c.loop-number.number in
    let rows = c.args.rows.now in
    let before = c.loop-number.entries.items in
    let did = c.in_ok-put_entry.ensures.put in
    let entry = did.0 in
    let long = c.loop-number.invariant.long in
    let items = did.3 in
    let row = c.index-rows-number.result in
    let low : n < length rows = c.loop-number-test.true in
    let here : row ≡ get_or rows n [] = c.index-rows-number.is ∙ get_or_default rows n row [] low in
    let shown : ShowsEntry row entry = did.1 in
    let shows : ShowsEntry (get_or rows n []) entry = subst (λ (r : Row). ShowsEntry r entry) here shown in
    record {
      fit = λ k low. subst (λ (xs : List Entry). FitsControl (get_or xs k no_entry)) (sym items)
          (pushed_each (λ (k : ℕ) (e : Entry). FitsControl e) before entry no_entry n long c.loop-number.invariant.fit did.2 k low);
      long = ap length items ∙ length-append before (entry ∷ []) ∙ ap (λ (k : ℕ). k + 1) long;
      shown = λ k low. subst (λ (xs : List Entry). ShowsEntry (get_or rows k []) (get_or xs k no_entry)) (sym items)
          (pushed_each (λ (k : ℕ) (e : Entry). ShowsEntry (get_or rows k []) e) before entry no_entry n long c.loop-number.invariant.shown shows k low);
    }

pub returns-clause-fit : goal.returns-clause-fit
returns-clause-fit c =
    let long = c.loop-number.invariant.long in
    all_from FitsControl _ no_entry (λ k low. c.loop-number.invariant.fit k (omega (arith, low, long)))
