use Rattle.std.proofs.Common.{rules, ◌≡◌, ◌+◌, ◌<◌, ◌++◌, [], ◌∷◌, ℕ, List, length, length-append, get_or, sym, ap, subst, ◌∙◌}
use Rattle.std.proofs.lemmas.List.{get_or_default}
use Rattle.sqlite.specs.Order.{Row}
use Rattle.dnp_eventbuf.specs.declared.numbered.Numbered.{Numbered}
use Rattle.dnp_store.specs.steps.JournalShown.{ShowsEvent, no_event}
use Rattle.dnp_store.proofs.Pushing.{pushed_each}
use Rattle.dnp_store.proofs.journal_decoding.events_in.Goals as goal

pub loop-number-preserved : goal.loop-number-preserved
loop-number-preserved c =
    let n = c.loop-number.number in
    let rows = c.args.rows.now in
    let before = c.loop-number.events.items in
    let event = c.in_ok-event.event in
    let long = c.loop-number.invariant.long in
    let items : c.push.new.self.items ≡ before ++ event ∷ [] = search rules in
    let row = c.index-rows-number.result in
    let low : n < length rows = c.loop-number-test.true in
    let here : row ≡ get_or rows n [] = c.index-rows-number.is ∙ get_or_default rows n row [] low in
    let shown : ShowsEvent row event = search rules in
    let shows : ShowsEvent (get_or rows n []) event = subst (λ (r : Row). ShowsEvent r event) here shown in
    record {
      long = ap length items ∙ length-append before (event ∷ []) ∙ ap (λ (k : ℕ). k + 1) long;
      shown = λ k low. subst (λ (xs : List Numbered). ShowsEvent (get_or rows k []) (get_or xs k no_event)) (sym items)
          (pushed_each (λ (k : ℕ) (e : Numbered). ShowsEvent (get_or rows k []) e) before event no_event n long c.loop-number.invariant.shown shows k low);
    }
