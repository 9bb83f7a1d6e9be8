use Rattle.sqlite.specs.Held.{state}
use Rattle.std.proofs.Common.{[], refl}
use Rattle.dnp_store.specs.JournalTables.{journal_schema}
use Rattle.dnp_store.proofs.JournalPaging.{many_if, many_plain, many_text, number_if}
use Rattle.dnp_store.proofs.Stepping.{if_ok}
use Rattle.dnp_store.proofs.Unread.{if_err, means_nothing}
use Rattle.dnp_store.proofs.journal_paging.read_count.Goals as goal

pub returns-clause-read : goal.returns-clause-read
returns-clause-read g c clean =
    many_if (state g.S.Store c.args.tx.now.conn.now) (state g.S.Store c.list.new.tx.conn.now) c.list.result (c.list.ensures.shown clean)

pub returns-clause-shown : goal.returns-clause-shown
returns-clause-shown g c clean =
    number_if (state g.S.Store c.args.tx.now.conn.now) (state g.S.Store c.list.new.tx.conn.now) c.list.result (c.list.ensures.shown clean)

pub returns-clause-denies : goal.returns-clause-denies
returns-clause-denies g c clean =
    let old = state g.S.Store c.args.tx.now.conn.now in
    let new = state g.S.Store c.list.new.tx.conn.now in
    if_err _ _ c.list.result (λ e refused told.
    let none = means_nothing old new many_text [] e told refused in
    (none.is_open, λ f j m sound has any. none.none (journal_schema f j m) has (many_plain f j m))) (c.list.ensures.refused clean)

pub returns-clause-answered : goal.returns-clause-answered
returns-clause-answered g c clean =
    if_ok _ _ c.list.result (λ rows shown. record { old = c.args.tx.now.conn.now; new = c.list.new.tx.conn.now; of = refl; shown = shown }) (c.list.ensures.shown clean)
