use Rattle.std.proofs.Common.{pos, ap, ◌∙◌, Ok, subst, refl}
use Rattle.std.proofs.lemmas.Int.{to_z_pos}
use mir.Syntax.{w64}
use Rattle.sqlite.specs.declared.types.Value.TheVariants.{Int}
use Rattle.sqlite.specs.Held.{state}
use Rattle.sqlite.specs.State.{Executes}
use Rattle.dnp_store.proofs.BookUpdates.{update_text}
use Rattle.dnp_store.proofs.BookHolding.{turn_holds, turn_bound}
use Rattle.dnp_store.specs.declared.store_kind.StoreKind.TheVariants.{Book}
use Rattle.dnp_store.proofs.Running.{statement_refused, ran_then}
use Rattle.dnp_store.proofs.book_writing.turn.Goals as goal

pub returns-clause-turned : goal.returns-clause-turned
returns-clause-turned g c clean =
    let old = state g.S.Store c.args.tx.now.conn.now in
    let new = state g.S.Store c.run.new.tx.conn.now in
    let given = turn_bound _ _ _ c.args.id c.args.control (c.params-to_sql.ensures ∙ ap Int (to_z_pos w64 c.args.id c.requires.id))
    (c.params-to_sql-2.ensures ∙ ap (λ n. Int (pos n)) c.state_columns-number.ensures.0) (c.params-to_sql-3.ensures ∙ ap (λ n. Int (pos n)) c.state_columns-number.ensures.1) in
    ran_then old new _ _ _ c.run.result (c.run.ensures.ran clean) (λ count ran book sound there holds. turn_holds old new book c.args.id count c.args.control sound there
    (subst (λ ps. Executes update_text ps old new (Ok count)) given ran) holds)

pub returns-clause-refused : goal.returns-clause-refused
returns-clause-refused g c clean =
    statement_refused g.S.Store Book c.args.tx.now.conn.now c.run.new.tx.conn.now _ _ c.run.result (1, refl) (c.run.ensures.refused clean)

pub returns-clause-step : goal.returns-clause-step
returns-clause-step g c = c.run.ensures.step
