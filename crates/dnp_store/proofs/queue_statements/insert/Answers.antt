use Rattle.std.proofs.Common.{rules, pos, ap, ◌∙◌, Ok, arith, subst, ◌<◌, subst₂, sym}
use Rattle.std.proofs.lemmas.Int.{to_z-of_z}
use mir.Val.{SFits}
use mir.Syntax.{w64}
use Rattle.sqlite.specs.declared.types.Value.TheVariants.{Int}
use Rattle.sqlite.specs.Values.{or_null}
use Rattle.sqlite.specs.Held.{state}
use Rattle.sqlite.specs.State.{Executes}
use Rattle.dnp_objects.specs.Lanes.{lane_number}
use Rattle.dnp_objects.specs.declared.limits.TheConstants.{LANES}
use Rattle.dnp_store.proofs.QueueSteps.{insert_holds, insert_bound, timed}
use Rattle.dnp_store.specs.declared.store_kind.StoreKind.TheVariants.{Queue}
use Rattle.dnp_store.specs.Texts.{IsOwn}
use Rattle.dnp_store.proofs.Refusing.{own_insert}
use Rattle.dnp_store.proofs.Running.{statement_refused, ran_then}
use Rattle.dnp_store.proofs.queue_statements.insert.Goals as goal

pub whole_time-time-requires : goal.whole_time-time-requires
whole_time-time-requires g c = let row = c.args.x.now.row in timed row.kind row.index row.flags row.value row.time c.requires.carried.fits

pub returns-clause-step : goal.returns-clause-step
returns-clause-step g c = c.run.ensures.step

pub returns-clause-added : goal.returns-clause-added
returns-clause-added g c clean =
    let old = state g.S.Store c.args.tx.now.conn.now in
    let new = state g.S.Store c.run.new.tx.conn.now in
    let x = c.args.x.now in
    let fits : SFits w64 x.row.value = search rules in
    let low : lane_number x.lane < LANES = subst (λ n. n < LANES) c.number-lane.ensures.value c.number-lane.ensures.range in
    let given = insert_bound x _ _ _ _ _ (c.params-to_sql.ensures ∙ ap (λ n. Int (pos n)) c.number-lane.ensures.value)
    (c.params-to_sql-2.ensures ∙ ap (λ n. Int (pos n)) c.from-index.ensures) (c.params-to_sql-3.ensures ∙ ap (λ n. Int (pos n)) c.from-flags.ensures)
    (c.params-to_sql-4.ensures ∙ ap Int (to_z-of_z w64 x.row.value fits)) (c.params-to_sql-5.ensures ∙ ap (or_null Int) c.whole_time-time.ensures) in
    ran_then old new _ _ _ c.run.result (c.run.ensures.ran clean) (λ count ran others s figures nine holds.
    insert_holds c.args.side old new others s figures x count nine low c.requires.carried
    (subst₂ (λ sql ps. Executes sql ps old new (Ok count)) c.insert_text.ensures given ran) holds)

pub returns-clause-refused : goal.returns-clause-refused
returns-clause-refused g c clean =
    statement_refused g.S.Store Queue c.args.tx.now.conn.now c.run.new.tx.conn.now _ _ c.run.result
    (subst (IsOwn Queue) (sym c.insert_text.ensures) (own_insert c.args.side))
    (c.run.ensures.refused clean)
