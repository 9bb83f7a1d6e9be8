use Rattle.std.proofs.Common.{[], ◌∷◌, ◌++◌, inl, arith, refl}
use Rattle.sqlite.specs.State.{HasCleanDisk}
use Rattle.sqlite.specs.Held.{state}
use Rattle.dnp_store.specs.declared.store_kind.StoreKind.TheVariants.{Queue}
use Rattle.dnp_store.specs.Added.{making_lanes, making_tables}
use Rattle.dnp_store.specs.Refusals.{RefusesOne}
use Rattle.dnp_store.specs.Schemas.{lanes_text}
use Rattle.dnp_store.specs.Texts.{lanes_insert}
use Rattle.dnp_store.proofs.Adding.{made_one, made_then}
use Rattle.dnp_store.proofs.Creating.{created_lanes}
use Rattle.dnp_store.proofs.Running.{err_too, step_too}
use Rattle.dnp_store.proofs.Stepping.{on_then, step_then}
use Rattle.dnp_store.proofs.Stopping.{one_first, one_later, stopped_after, stopped_as, stopped_here, stopped_last}
use Rattle.dnp_store.proofs.queue_tables.make_all.Goals as goal

pub returns-clause-made : goal.returns-clause-made
returns-clause-made g c clean =
    let numbered = state g.S.Store c.make_tables.new.tx.conn.now in
    let made = state g.S.Store c.run.new.tx.conn.now in
    let clean_2 : HasCleanDisk made = omega (arith, clean, c.put_lanes.ensures.step.survives.clean) in
    let clean_1 : HasCleanDisk numbered = omega (arith, clean_2, c.run.ensures.step.survives.clean) in
    let ran = c.in_ok-run.ensures.ran clean_2 in
    on_then _ _ c.put_lanes.result (λ filled none. filled (created_lanes numbered made ran.0 (c.in_ok-make_tables.ensures.made clean_1 none) ran.1))
    (c.put_lanes.ensures.made clean)

pub returns-clause-added : goal.returns-clause-added
returns-clause-added g c clean =
    let old = state g.S.Store c.args.tx.now.conn.now in
    let numbered = state g.S.Store c.make_tables.new.tx.conn.now in
    let made = state g.S.Store c.run.new.tx.conn.now in
    let last = state g.S.Store c.put_lanes.new.tx.conn.now in
    let clean_2 : HasCleanDisk made = omega (arith, clean, c.put_lanes.ensures.step.survives.clean) in
    let clean_1 : HasCleanDisk numbered = omega (arith, clean_2, c.run.ensures.step.survives.clean) in
    let ran = c.in_ok-run.ensures.ran clean_2 in
    let lanes = making_lanes lanes_insert 0 c.args.capacities.now in
    on_then _ _ c.put_lanes.result
    (λ filled. made_then g.S.Store (making_tables Queue) ((lanes_text, []) ∷ lanes) old.now numbered.now last.now (c.in_ok-make_tables.ensures.added clean_1)
    (made_then g.S.Store ((lanes_text, []) ∷ []) lanes numbered.now made.now last.now
    (made_one g.S.Store c.make_tables.new.tx.conn.now c.run.new.tx.conn.now lanes_text [] ran.0 ran.1) filled))
    (c.put_lanes.ensures.added clean)

pub returns-clause-step : goal.returns-clause-step
returns-clause-step g c =
    step_then g.S.Store c.args.tx.now.conn c.make_tables.new.tx.conn c.put_lanes.new.tx.conn _ _ c.make_tables.ensures.step
    (step_then g.S.Store c.make_tables.new.tx.conn c.run.new.tx.conn c.put_lanes.new.tx.conn _ _ c.run.ensures.step c.put_lanes.ensures.step)

pub returns-clause-refused : goal.returns-clause-refused
returns-clause-refused g c clean =
    let old = c.args.tx.now.conn.now in
    let numbered = c.make_tables.new.tx.conn.now in
    let made = c.run.new.tx.conn.now in
    let last = c.put_lanes.new.tx.conn.now in
    let clean_2 : HasCleanDisk (state g.S.Store made) = omega (arith, clean, c.put_lanes.ensures.step.survives.clean) in
    let clean_1 : HasCleanDisk (state g.S.Store numbered) = omega (arith, clean_2, c.run.ensures.step.survives.clean) in
    let ran = c.in_ok-run.ensures.ran clean_2 in
    let lanes = making_lanes lanes_insert 0 c.args.capacities.now in
    let rest = (lanes_text, []) ∷ lanes in
    let its = making_tables Queue ++ rest in
    stopped_last g.S.Store (RefusesOne g.S.Store rest) (RefusesOne g.S.Store its) old numbered last c.put_lanes.result c.make_tables.ensures.step.survives
    (λ before after e. one_later g.S.Store (making_tables Queue) rest (state g.S.Store old).now (state g.S.Store numbered).now before after e (c.in_ok-make_tables.ensures.added clean_1))
    (stopped_last g.S.Store (RefusesOne g.S.Store lanes) (RefusesOne g.S.Store rest) numbered made last c.put_lanes.result c.run.ensures.step.survives
    (λ before after e. one_later g.S.Store ((lanes_text, []) ∷ []) lanes (state g.S.Store numbered).now (state g.S.Store made).now before after e
    (made_one g.S.Store numbered made lanes_text [] ran.0 ran.1))
    (c.put_lanes.ensures.refused clean))

pub returns-in_err-run-clause-refused : goal.returns-in_err-run-clause-refused
returns-in_err-run-clause-refused g c clean =
    let old = c.args.tx.now.conn.now in
    let numbered = c.make_tables.new.tx.conn.now in
    let made = c.run.new.tx.conn.now in
    let clean_1 : HasCleanDisk (state g.S.Store numbered) = omega (arith, clean, c.run.ensures.step.survives.clean) in
    let told = c.in_err-run.ensures.refused clean in
    let rest = (lanes_text, []) ∷ making_lanes lanes_insert 0 c.args.capacities.now in
    let its = making_tables Queue ++ rest in
    err_too _ c.from_residual-in_err-run.result _ c.from_residual-in_err-run.ensures
    (stopped_after g.S.Store (RefusesOne g.S.Store rest) (RefusesOne g.S.Store its) old numbered made _ c.make_tables.ensures.step.survives
    (λ before after. one_later g.S.Store (making_tables Queue) rest (state g.S.Store old).now (state g.S.Store numbered).now before after _ (c.in_ok-make_tables.ensures.added clean_1))
    (stopped_here g.S.Store (RefusesOne g.S.Store rest) numbered made _ (inl (refl, told.0, told.1))))

pub returns-in_err-run-clause-step : goal.returns-in_err-run-clause-step
returns-in_err-run-clause-step g c =
    step_too g.S.Store c.args.tx.now.conn c.run.new.tx.conn _ c.from_residual-in_err-run.result c.from_residual-in_err-run.ensures
    (step_then g.S.Store c.args.tx.now.conn c.make_tables.new.tx.conn c.run.new.tx.conn _ _ c.make_tables.ensures.step c.in_err-run.ensures.step)

pub returns-in_err-make_tables-clause-refused : goal.returns-in_err-make_tables-clause-refused
returns-in_err-make_tables-clause-refused g c clean =
    let rest = (lanes_text, []) ∷ making_lanes lanes_insert 0 c.args.capacities.now in
    err_too _ c.from_residual.result _ c.from_residual.ensures
    (stopped_as g.S.Store (RefusesOne g.S.Store (making_tables Queue)) (RefusesOne g.S.Store (making_tables Queue ++ rest)) c.args.tx.now.conn.now c.make_tables.new.tx.conn.now _
    (λ before after. one_first g.S.Store (making_tables Queue) rest _ before after _) (c.in_err-make_tables.ensures.refused clean))

pub returns-in_err-make_tables-clause-step : goal.returns-in_err-make_tables-clause-step
returns-in_err-make_tables-clause-step g c = step_too g.S.Store _ _ _ c.from_residual.result c.from_residual.ensures c.in_err-make_tables.ensures.step
