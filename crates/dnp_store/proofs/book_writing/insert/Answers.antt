use Rattle.std.proofs.Common.{rules, pos, ap, ◌∙◌, Ok, subst, refl}
use Rattle.std.proofs.lemmas.Int.{to_z-of_z}
use mir.Val.{SFits}
use mir.Syntax.{w64}
use Rattle.sqlite.specs.declared.types.Value.TheVariants.{Int}
use Rattle.sqlite.specs.Held.{state}
use Rattle.sqlite.specs.State.{Executes}
use Rattle.dnp_store.proofs.BookStatements.{insert_text}
use Rattle.dnp_store.proofs.BookHolding.{insert_holds, insert_bound, entry_for}
use Rattle.dnp_store.specs.declared.store_kind.StoreKind.TheVariants.{Book}
use Rattle.dnp_store.proofs.Running.{statement_refused, ran_then}
use Rattle.dnp_store.proofs.book_writing.insert.Goals as goal

pub returns-clause-added : goal.returns-clause-added
returns-clause-added g c clean =
    let old = state g.S.Store c.args.tx.now.conn.now in
    let new = state g.S.Store c.run.new.tx.conn.now in
    let columns = c.columns_of-columns.result in
    let numbers = c.columns_of-columns.ensures.numbers in
    let block = c.columns_of-columns.ensures.block in
    let fits : SFits w64 columns.value = search rules in
    let given = insert_bound (entry_for 0 c.args.target c.args.command.now) _ _ _ _ _ _ _ _
    (c.params-to_sql.ensures ∙ ap (λ n. Int (pos n)) c.from-target.ensures)
    (c.params-to_sql-2.ensures ∙ ap (λ n. Int (pos n)) numbers.0) (c.params-to_sql-3.ensures ∙ ap (λ n. Int (pos n)) numbers.1)
    (c.params-to_sql-4.ensures ∙ ap (λ n. Int (pos n)) block.0) (c.params-to_sql-5.ensures ∙ ap (λ n. Int (pos n)) block.1)
    (c.params-to_sql-6.ensures ∙ ap (λ n. Int (pos n)) block.2) (c.params-to_sql-7.ensures ∙ ap (λ n. Int (pos n)) block.3)
    (c.params-to_sql-8.ensures ∙ ap Int (to_z-of_z w64 columns.value fits ∙ numbers.2)) in
    ran_then old new _ _ _ c.run.result (c.run.ensures.ran clean) (λ count ran book sound holds. insert_holds old new book c.args.target count c.args.command.now sound
    (subst (λ ps. Executes insert_text ps old new (Ok count)) given ran) holds)

pub returns-clause-refused : goal.returns-clause-refused
returns-clause-refused g c clean =
    statement_refused g.S.Store Book c.args.tx.now.conn.now c.run.new.tx.conn.now _ _ c.run.result (0, refl) (c.run.ensures.refused clean)

pub returns-clause-step : goal.returns-clause-step
returns-clause-step g c = c.run.ensures.step
