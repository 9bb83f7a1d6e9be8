use Rattle.std.proofs.Common.{[], IfOk, refl, subst}
use Rattle.sqlite.specs.Held.{state}
use Rattle.sqlite.specs.State.{Shown}
use Rattle.dnp_store.proofs.PairReading.{ids_if, queued_if}
use Rattle.dnp_store.proofs.QueueShowing.{puts_if, rows_denied}
use Rattle.dnp_store.specs.Texts.{rows_select}
use Rattle.dnp_store.proofs.Outcomes.{on_each}
use Rattle.dnp_store.proofs.Selecting.{rows_selects, stays}
use Rattle.dnp_store.proofs.Stepping.{if_ok}
use Rattle.dnp_store.proofs.Unread.{if_err}
use Rattle.dnp_store.proofs.queue_reading.read_queued.Goals as goal

pub returns-clause-read : goal.returns-clause-read
returns-clause-read g c clean =
    let old = state g.S.Store c.args.tx.now.conn.now in
    let new = state g.S.Store c.list.new.tx.conn.now in
    queued_if old new c.args.side c.list.result
    (subst (λ sql. IfOk c.list.result (λ rows. Shown sql [] old new rows.items)) c.rows_query.ensures (c.list.ensures.shown clean))

pub returns-clause-ids : goal.returns-clause-ids
returns-clause-ids g c clean =
    let old = state g.S.Store c.args.tx.now.conn.now in
    let new = state g.S.Store c.list.new.tx.conn.now in
    ids_if old new c.args.side c.list.result
    (subst (λ sql. IfOk c.list.result (λ rows. Shown sql [] old new rows.items)) c.rows_query.ensures (c.list.ensures.shown clean))

pub returns-clause-puts : goal.returns-clause-puts
returns-clause-puts g c clean =
    let old = state g.S.Store c.args.tx.now.conn.now in
    let new = state g.S.Store c.list.new.tx.conn.now in
    puts_if old new c.args.side c.list.result
    (subst (λ sql. IfOk c.list.result (λ rows. Shown sql [] old new rows.items)) c.rows_query.ensures (c.list.ensures.shown clean))

pub returns-clause-denies : goal.returns-clause-denies
returns-clause-denies g c clean =
    let old = state g.S.Store c.args.tx.now.conn.now in
    let new = state g.S.Store c.list.new.tx.conn.now in
    if_err _ _ c.list.result (λ e refused told.
    let none = rows_denied old new c.args.side e told _ c.rows_query.ensures refused in
    (none.0, λ sound has any. none.1 has)) (c.list.ensures.refused clean)

pub returns-clause-answered : goal.returns-clause-answered
returns-clause-answered g c clean =
    let old = c.args.tx.now.conn.now in
    let new = c.list.new.tx.conn.now in
    if_ok _ _ c.list.result (λ rows shown. record { old = old; new = new; of = refl; shown = shown })
    (subst (λ sql. IfOk c.list.result (λ rows. Shown sql [] (state g.S.Store old) (state g.S.Store new) rows.items)) c.rows_query.ensures (c.list.ensures.shown clean))

pub returns-clause-same : goal.returns-clause-same
returns-clause-same g c clean =
    let old = state g.S.Store c.args.tx.now.conn.now in
    let new = state g.S.Store c.list.new.tx.conn.now in
    on_each _ _ c.list.result (λ rows shown. stays (rows_select c.args.side) [] old new rows.items (rows_selects c.args.side) shown)
    (subst (λ sql. IfOk c.list.result (λ rows. Shown sql [] old new rows.items)) c.rows_query.ensures (c.list.ensures.shown clean))
