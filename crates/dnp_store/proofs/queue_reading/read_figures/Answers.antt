use Rattle.std.proofs.Common.{List, [], IfOk, inl, refl, subst}
use Rattle.std.specs.Prelude.{OnErr}
use Rattle.sqlite.specs.Held.{state}
use Rattle.sqlite.specs.State.{Shown}
use Rattle.dnp_store.specs.steps.Shown.{LackNine, ShowNine}
use Rattle.dnp_store.proofs.PairReading.{lanes_if}
use Rattle.dnp_store.proofs.QueueShowing.{lanes_denied, none_lacks}
use Rattle.dnp_store.specs.Texts.{lanes_select}
use Rattle.dnp_store.proofs.Outcomes.{on_any}
use Rattle.dnp_store.proofs.Selecting.{lanes_selects, stays}
use Rattle.dnp_store.proofs.Stepping.{if_ok}
use Rattle.dnp_store.proofs.Unread.{err_on, if_form, if_err, on_err}
use Rattle.dnp_store.proofs.queue_reading.read_figures.Goals as goal

pub returns-clause-read : goal.returns-clause-read
returns-clause-read g c clean =
    let old = state g.S.Store c.args.tx.now.conn.now in
    let new = state g.S.Store c.list.new.tx.conn.now in
    lanes_if old new c.args.side c.in_ok-rows.rows.items c.all_figures.result
    (subst (λ sql. Shown sql [] old new c.in_ok-rows.rows.items) c.lanes_query.ensures (c.in_ok-rows.ensures.shown clean)) c.all_figures.ensures.in_range
    (subst (λ (rows : List _). IfOk c.all_figures.result (ShowNine rows)) c.deref.ensures.value c.all_figures.ensures.shown)

pub returns-in_err-rows-clause-denies : goal.returns-in_err-rows-clause-denies
returns-in_err-rows-clause-denies g c clean =
    let old = state g.S.Store c.args.tx.now.conn.now in
    let new = state g.S.Store c.list.new.tx.conn.now in
    err_on _ c.from_residual.result _ c.from_residual.ensures (λ told.
    let none = lanes_denied old new c.args.side _ told _ c.lanes_query.ensures (c.in_err-rows.ensures.refused clean) in
    (none.0, λ sound has any. none.1 has))

pub returns-clause-denies : goal.returns-clause-denies
returns-clause-denies g c clean =
    let old = state g.S.Store c.args.tx.now.conn.now in
    let new = state g.S.Store c.list.new.tx.conn.now in
    if_form _ c.all_figures.result (if_err _ _ c.all_figures.result (λ unread is. inl is) c.all_figures.ensures.named) (λ told. (
      c.in_ok-rows.ensures.open clean,
      λ sound has stands.
          none_lacks old new c.in_ok-rows.rows.items c.args.side
          (subst (λ sql. Shown sql [] old new c.in_ok-rows.rows.items) c.lanes_query.ensures (c.in_ok-rows.ensures.shown clean))
          (on_err _ c.all_figures.result _ told (subst (λ (rows : List _). OnErr c.all_figures.result (LackNine rows)) c.deref.ensures.value c.all_figures.ensures.wrong))
          has stands,
    ))

pub returns-clause-shown : goal.returns-clause-shown
returns-clause-shown g c clean =
    let old = c.args.tx.now.conn.now in
    let new = c.list.new.tx.conn.now in
    let rows = c.in_ok-rows.rows.items in
    let shown = subst (λ sql. Shown sql [] (state g.S.Store old) (state g.S.Store new) rows) c.lanes_query.ensures (c.in_ok-rows.ensures.shown clean) in
    if_ok _ _ c.all_figures.result (λ figures nine. (rows, record { old = old; new = new; of = refl; shown = shown }, nine))
    (subst (λ (rows : List _). IfOk c.all_figures.result (ShowNine rows)) c.deref.ensures.value c.all_figures.ensures.shown)

pub returns-clause-same : goal.returns-clause-same
returns-clause-same g c clean =
    let old = state g.S.Store c.args.tx.now.conn.now in
    let new = state g.S.Store c.list.new.tx.conn.now in
    let rows = c.in_ok-rows.rows.items in
    on_any _ c.all_figures.result (stays (lanes_select c.args.side) [] old new rows (lanes_selects c.args.side)
    (subst (λ sql. Shown sql [] old new rows) c.lanes_query.ensures (c.in_ok-rows.ensures.shown clean)))
