use Rattle.std.proofs.Common.{ap, ◌∙◌, Ok, arith, subst, rules, subst₂, sym}
use Rattle.std.proofs.lemmas.Int.{to_z_pos}
use mir.Syntax.{w64}
use Rattle.sqlite.specs.declared.types.Value.TheVariants.{Int}
use Rattle.sqlite.specs.Held.{state}
use Rattle.sqlite.specs.State.{Executes}
use Rattle.dnp_store.proofs.QueueSteps.{take_holds, delete_bound}
use Rattle.dnp_store.specs.declared.store_kind.StoreKind.TheVariants.{Queue}
use Rattle.dnp_store.specs.Texts.{IsOwn}
use Rattle.dnp_store.proofs.Refusing.{own_delete}
use Rattle.dnp_store.proofs.Running.{statement_refused, ran_then}
use Rattle.dnp_store.proofs.queue_statements.take.Goals as goal

pub returns-clause-step : goal.returns-clause-step
returns-clause-step g c = c.run.ensures.step

pub returns-clause-cut : goal.returns-clause-cut
returns-clause-cut g c clean =
    let old = state g.S.Store c.args.tx.now.conn.now in
    let new = state g.S.Store c.run.new.tx.conn.now in
    let given = delete_bound _ _ c.args.number c.args.upto c.params-to_sql.ensures
    (c.params-to_sql-2.ensures ∙ ap Int (to_z_pos w64 c.args.upto c.requires.upto)) in
    ran_then old new _ _ _ c.run.result (c.run.ensures.ran clean) (λ count ran others s figures nine holds.
    take_holds c.args.side old new others s figures c.args.number c.args.upto count nine c.requires.number
    (subst₂ (λ sql ps. Executes sql ps old new (Ok count)) c.delete_text.ensures given ran) holds)

pub returns-clause-refused : goal.returns-clause-refused
returns-clause-refused g c clean =
    statement_refused g.S.Store Queue c.args.tx.now.conn.now c.run.new.tx.conn.now _ _ c.run.result
    (subst (IsOwn Queue) (sym c.delete_text.ensures) (own_delete c.args.side))
    (c.run.ensures.refused clean)
