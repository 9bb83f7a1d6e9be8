use Rattle.std.proofs.Common.{not, IsTrue, IfOk, ap, subst, ◌∙◌, arith, refl}
use mir.Syntax.{w64}
use Rattle.std.proofs.lemmas.Int.{to_z_pos}
use Rattle.sqlite.specs.declared.types.Value.TheVariants.{Int}
use Rattle.dnp_store.proofs.QueueSteps.{delete_bound}
use Rattle.sqlite.specs.Held.{state}
use Rattle.sqlite.specs.State.{Shown}
use Rattle.dnp_store.specs.Texts.{journal_select}
use Rattle.dnp_store.proofs.JournalReading.{read_if, open_if, same_if}
use Rattle.dnp_store.specs.declared.store_kind.StoreKind.TheVariants.{Journal}
use Rattle.dnp_store.proofs.Refusing.{by_query, by_rows}
use Rattle.dnp_store.proofs.journal_reading.query_over.Goals as goal

idle : (g : _) (c : goal.After-query_all g) → IsTrue c.is_autocommit.result
idle g c = c.is_autocommit.ensures.value ∙ ap not c.requires.idle

pub returns-clause-read : goal.returns-clause-read
returns-clause-read g c clean =
    read_if (state g.S.Store c.args.conn.now) (state g.S.Store c.query_all.new.self) c.args.from c.args.most _
    (delete_bound _ _ c.args.from c.args.most (c.params-to_sql.ensures ∙ ap Int (to_z_pos w64 c.args.from (omega (arith, c.requires.from))))
    (c.params-to_sql-2.ensures ∙ ap Int (to_z_pos w64 c.args.most (omega (arith, c.requires.most)))))
    (c.is_autocommit.ensures.settled (idle g c)) c.query_all.result (c.query_all.ensures.ok clean)

pub returns-clause-open : goal.returns-clause-open
returns-clause-open g c clean =
    open_if (state g.S.Store c.args.conn.now) (state g.S.Store c.query_all.new.self) c.args.from c.args.most _
    (delete_bound _ _ c.args.from c.args.most (c.params-to_sql.ensures ∙ ap Int (to_z_pos w64 c.args.from (omega (arith, c.requires.from))))
    (c.params-to_sql-2.ensures ∙ ap Int (to_z_pos w64 c.args.most (omega (arith, c.requires.most)))))
    (c.is_autocommit.ensures.settled (idle g c)) c.query_all.result (c.query_all.ensures.ok clean)

pub returns-clause-same : goal.returns-clause-same
returns-clause-same g c clean =
    same_if (state g.S.Store c.args.conn.now) (state g.S.Store c.query_all.new.self) c.args.from c.args.most _
    (delete_bound _ _ c.args.from c.args.most (c.params-to_sql.ensures ∙ ap Int (to_z_pos w64 c.args.from (omega (arith, c.requires.from))))
    (c.params-to_sql-2.ensures ∙ ap Int (to_z_pos w64 c.args.most (omega (arith, c.requires.most)))))
    (c.is_autocommit.ensures.settled (idle g c)) c.query_all.result (c.query_all.ensures.ok clean) (c.query_all.ensures.err clean)

pub returns-clause-refused : goal.returns-clause-refused
returns-clause-refused g c clean =
    by_query g.S.Store Journal c.args.conn.now c.query_all.new.self _ _ c.query_all.result (2, refl) (c.query_all.ensures.err clean)

pub returns-clause-shown : goal.returns-clause-shown
returns-clause-shown g c clean =
    by_rows _ Journal (state g.S.Store c.args.conn.now) (state g.S.Store c.query_all.new.self) _ _ c.query_all.result (2, refl) (c.query_all.ensures.ok clean)

pub returns-clause-answered : goal.returns-clause-answered
returns-clause-answered g c clean =
    let old = state g.S.Store c.args.conn.now in
    let new = state g.S.Store c.query_all.new.self in
    subst (λ params. IfOk c.query_all.result (λ rows. Shown journal_select params old new rows.items))
    (delete_bound _ _ c.args.from c.args.most (c.params-to_sql.ensures ∙ ap Int (to_z_pos w64 c.args.from (omega (arith, c.requires.from))))
    (c.params-to_sql-2.ensures ∙ ap Int (to_z_pos w64 c.args.most (omega (arith, c.requires.most))))) (c.query_all.ensures.ok clean)
