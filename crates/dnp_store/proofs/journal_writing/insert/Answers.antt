use Rattle.std.proofs.Common.{rules, pos, ap, ◌∙◌, Ok, subst, refl}
use Rattle.std.proofs.lemmas.Int.{to_z-of_z}
use mir.Val.{SFits}
use mir.Syntax.{w64}
use Rattle.sqlite.specs.declared.types.Value.TheVariants.{Int}
use Rattle.sqlite.specs.Values.{or_null}
use Rattle.sqlite.specs.Held.{state}
use Rattle.sqlite.specs.State.{Executes}
use Rattle.dnp_store.proofs.JournalStatements.{insert_text}
use Rattle.dnp_store.proofs.JournalHolding.{insert_holds, insert_bound}
use Rattle.dnp_store.proofs.QueueSteps.{timed}
use Rattle.dnp_store.specs.declared.store_kind.StoreKind.TheVariants.{Journal}
use Rattle.dnp_store.proofs.Running.{statement_refused, ran_then}
use Rattle.dnp_store.proofs.journal_writing.insert.Goals as goal

pub whole_time-time-requires : goal.whole_time-time-requires
whole_time-time-requires g c = let row = c.args.event.now in timed row.kind row.index row.flags row.value row.time c.requires.event

pub returns-clause-added : goal.returns-clause-added
returns-clause-added g c clean =
    let old = state g.S.Store c.args.tx.now.conn.now in
    let new = state g.S.Store c.run.new.tx.conn.now in
    let x = c.args.event.now in
    let fits : SFits w64 x.value = search rules in
    let given = insert_bound x _ _ _ _ _ (c.params-to_sql.ensures ∙ ap (λ n. Int (pos n)) c.number-kind.ensures.value)
    (c.params-to_sql-2.ensures ∙ ap (λ n. Int (pos n)) c.from-index.ensures) (c.params-to_sql-3.ensures ∙ ap (λ n. Int (pos n)) c.from-flags.ensures)
    (c.params-to_sql-4.ensures ∙ ap Int (to_z-of_z w64 x.value fits)) (c.params-to_sql-5.ensures ∙ ap (or_null Int) c.whole_time-time.ensures) in
    ran_then old new _ _ _ c.run.result (c.run.ensures.ran clean) (λ count ran a holds. insert_holds old new a x count
    (subst (λ ps. Executes insert_text ps old new (Ok count)) given ran) holds)

pub returns-clause-refused : goal.returns-clause-refused
returns-clause-refused g c clean =
    statement_refused g.S.Store Journal c.args.tx.now.conn.now c.run.new.tx.conn.now _ _ c.run.result (0, refl) (c.run.ensures.refused clean)

pub returns-clause-step : goal.returns-clause-step
returns-clause-step g c = c.run.ensures.step
