use Rattle.std.proofs.Common.{rules, ◌≡◌, ◌<◌, ◌+◌, ◌∷◌, [], ℕ, true, false, drop, get_or, length, List, sym, ap, subst, ◌∙◌, arith, add-one, drop-cons}
use Rattle.std.proofs.lemmas.List.{get_or_default}
use Rattle.sqlite.specs.Order.{Row}
use Rattle.dnp_eventbuf.specs.FitsLane.{FitsLane}
use Rattle.dnp_eventbuf.specs.Restored.{fits_behind, with_old_row}
use Rattle.dnp_eventbuf.specs.EventBuffer.{EventBuffer}
use Rattle.dnp_store.specs.steps.Shown.{IsWhole, Restores, ShowsQueued}
use Rattle.dnp_store.proofs.Restoring.{fits_alike, one_id, put_alike}
use Rattle.dnp_store.proofs.decoding.restore_rows.Goals as goal

pub loop-row-preserved : goal.loop-row-preserved
loop-row-preserved c =
    let i = c.loop-row.row-index in
    let rows = c.args.rows.now in
    let row = c.row-item.result in
    let lanes = c.loop-row.lanes in
    let id = c.in-Some.id in
    let x = c.in-Some.x in
    let low : i < length rows = c.loop-row-test.true in
    let front : drop i rows ≡ get_or rows i row ∷ drop (i + 1) rows = rw (add-one, drop-cons rows i row) in
    let left : drop i rows ≡ row ∷ drop (i + 1) rows = front ∙ ap (λ (r : Row). r ∷ drop (i + 1) rows) (sym c.row-item.is) in
    let shows : ShowsQueued row id x = search rules in
    let carried : FitsLane x = search rules in
    let took : c.restore_row.result ≡ true = c.if-not-restore_row.false in
    record {
      put = λ b h.
          let less : c.loop-row.last < id = let test = c.if-id-last.false in omega arith in
          let fits : fits_behind lanes id x ≡ true = sym c.restore_row.ensures.value ∙ took in
          let rest : Restores id (drop (i + 1) rows) (with_old_row lanes id x) b =
          subst (λ (s : EventBuffer). Restores id (drop (i + 1) rows) s b) (c.restore_row.ensures.put took) h in
          c.loop-row.invariant.put b (subst (λ (rs : List Row). Restores c.loop-row.last rs lanes b) (sym left) (id, x, shows, carried, less, fits, rest));
      left = λ b h.
          let next = subst (λ (rs : List Row). Restores c.loop-row.last rs lanes b) left (c.loop-row.invariant.left b h) in
          let put : with_old_row lanes id x ≡ with_old_row lanes next.0 next.1 = put_alike row id next.0 x next.1 shows next.2 lanes carried next.3 in
          let here : Restores id (drop (i + 1) rows) (with_old_row lanes id x) b =
          subst (λ (s : EventBuffer). Restores id (drop (i + 1) rows) s b) (sym put)
          (subst (λ (n : ℕ). Restores n (drop (i + 1) rows) (with_old_row lanes next.0 next.1) b) (sym (one_id row id next.0 x next.1 shows next.2)) next.6) in
          subst (λ (s : EventBuffer). Restores id (drop (i + 1) rows) s b) (sym (c.restore_row.ensures.put took)) here;
    }

pub returns-in_default-clause-fits : goal.returns-in_default-clause-fits
returns-in_default-clause-fits c b long restores =
    let i = c.loop-row.row-index in
    let rows = c.args.rows.now in
    let row = c.row-item.result in
    let lanes = c.loop-row.lanes in
    let low : i < length rows = c.loop-row-test.true in
    let front : drop i rows ≡ get_or rows i row ∷ drop (i + 1) rows = rw (add-one, drop-cons rows i row) in
    let left : drop i rows ≡ row ∷ drop (i + 1) rows = front ∙ ap (λ (r : Row). r ∷ drop (i + 1) rows) (sym c.row-item.is) in
    let next = subst (λ (rs : List Row). Restores c.loop-row.last rs lanes b) left (c.loop-row.invariant.left b restores) in
    let whole : IsWhole row = subst IsWhole (sym (c.row-item.is ∙ get_or_default rows i row [] low)) (long i low) in
    c.in_default.ensures.found next.0 next.1 whole.0 (whole.1 next.1.row.flags next.2.flags) next.2 next.3

pub returns-then-not-restore_row-clause-fits : goal.returns-then-not-restore_row-clause-fits
returns-then-not-restore_row-clause-fits c b long restores =
    let id = c.in-Some.id in
    let x = c.in-Some.x in
    let i = c.loop-row.row-index in
    let rows = c.args.rows.now in
    let row = c.row-item.result in
    let lanes = c.loop-row.lanes in
    let low : i < length rows = c.loop-row-test.true in
    let front : drop i rows ≡ get_or rows i row ∷ drop (i + 1) rows = rw (add-one, drop-cons rows i row) in
    let left : drop i rows ≡ row ∷ drop (i + 1) rows = front ∙ ap (λ (r : Row). r ∷ drop (i + 1) rows) (sym c.row-item.is) in
    let next = subst (λ (rs : List Row). Restores c.loop-row.last rs lanes b) left (c.loop-row.invariant.left b restores) in
    let shows : ShowsQueued row id x = search rules in
    sym c.if-not-restore_row.true ∙ c.restore_row.ensures.value ∙ fits_alike row id next.0 x next.1 shows next.2 lanes ∙ next.5
