use Rattle.std.proofs.Common.{ap, ◌∙◌, arith}
use mir.Syntax.{w64}
use Rattle.std.proofs.lemmas.Int.{to_z_pos}
use Rattle.sqlite.specs.declared.types.Value.TheVariants.{Int}
use Rattle.sqlite.specs.State.{HasCleanDisk}
use Rattle.sqlite.specs.Held.{state}
use Rattle.dnp_store.specs.Texts.{journal_select}
use Rattle.dnp_store.proofs.Outcomes.{on_each}
use Rattle.dnp_store.proofs.Selecting.{page_selects, stays}
use Rattle.dnp_store.proofs.Reading.{was_open, is_inside, keeps}
use Rattle.dnp_store.proofs.QueueSteps.{delete_bound}
use Rattle.dnp_store.proofs.JournalPaging.{page_if}
use Rattle.dnp_store.specs.JournalTables.{journal_schema}
use Rattle.dnp_store.proofs.JournalReading.{over_plain, over_text}
use Rattle.dnp_store.proofs.JournalSeen.{first_if}
use Rattle.dnp_store.proofs.Unread.{if_err, means_nothing}
use Rattle.dnp_store.proofs.journal_paging.read_page.Goals as goal

pub returns-clause-step : goal.returns-clause-step
returns-clause-step g c =
    let old = state g.S.Store c.args.tx.now.conn.now in
    let new = state g.S.Store c.query_all.new.self.conn.now in
    let early = λ (clean : HasCleanDisk new).
    (let was : HasCleanDisk old = omega (arith, clean, c.query_all.ensures.survives.clean) in c.requires.inside was) in
    record {
      same_reference = c.query_all.ensures.same_reference;
      inside = λ clean. is_inside old new _ _ (early clean) c.query_all.result (c.query_all.ensures.ok clean);
      kept = λ clean. keeps old new _ _ (early clean) c.query_all.result (c.query_all.ensures.ok clean) (c.query_all.ensures.err clean);
      survives = c.query_all.ensures.survives;
    }

pub returns-clause-open : goal.returns-clause-open
returns-clause-open g c clean =
    let old = state g.S.Store c.args.tx.now.conn.now in
    let early : HasCleanDisk old = omega (arith, clean, c.query_all.ensures.survives.clean) in
    was_open old (state g.S.Store c.query_all.new.self.conn.now) _ _ (c.requires.inside early) c.query_all.result (c.query_all.ensures.ok clean)

pub returns-clause-read : goal.returns-clause-read
returns-clause-read g c clean =
    page_if (state g.S.Store c.args.tx.now.conn.now) (state g.S.Store c.query_all.new.self.conn.now) c.args.from 1000 _
    (delete_bound _ _ c.args.from 1000 (c.params-to_sql.ensures ∙ ap Int (to_z_pos w64 c.args.from (omega (arith, c.requires.from)))) c.params-to_sql-2.ensures)
    c.query_all.result (c.query_all.ensures.ok clean)

pub returns-clause-shown : goal.returns-clause-shown
returns-clause-shown g c clean =
    first_if (state g.S.Store c.args.tx.now.conn.now) (state g.S.Store c.query_all.new.self.conn.now) c.args.from 1000 (omega arith) _
    (delete_bound _ _ c.args.from 1000 (c.params-to_sql.ensures ∙ ap Int (to_z_pos w64 c.args.from (omega (arith, c.requires.from)))) c.params-to_sql-2.ensures)
    c.query_all.result (c.query_all.ensures.ok clean)

pub returns-clause-denies : goal.returns-clause-denies
returns-clause-denies g c clean =
    let old = state g.S.Store c.args.tx.now.conn.now in
    let new = state g.S.Store c.query_all.new.self.conn.now in
    if_err _ _ c.query_all.result (λ e refused told.
    let none = means_nothing old new over_text _ e told refused in
    (none.is_open, λ f j m sound has any. none.none (journal_schema f j m) has (over_plain f j m))) (c.query_all.ensures.err clean)

pub returns-clause-same : goal.returns-clause-same
returns-clause-same g c clean =
    on_each _ _ c.query_all.result (λ rows shown. stays journal_select _ (state g.S.Store c.args.tx.now.conn.now) (state g.S.Store c.query_all.new.self.conn.now)
    rows.items page_selects shown) (c.query_all.ensures.ok clean)
