use Rattle.std.proofs.Common.{◌++◌, arith, sym, subst}
use Rattle.sqlite.specs.State.{HasCleanDisk}
use Rattle.sqlite.specs.Held.{state}
use Rattle.dnp_store.specs.Added.{MakeAll, making_tables}
use Rattle.dnp_store.specs.steps.Stores.{HasNumber}
use Rattle.dnp_store.specs.Refusals.{RefusesOne, asking}
use Rattle.dnp_store.proofs.Stepping.{on_then, step_then}
use Rattle.dnp_store.proofs.Stopping.{one_first, one_later, stopped_as, stopped_last}
use Rattle.dnp_store.proofs.Running.{err_too, step_too}
use Rattle.dnp_store.proofs.stores.make_store.Goals as goal

pub returns-clause-made : goal.returns-clause-made
returns-clause-made g c clean =
    let early : HasCleanDisk (state g.S.Store c.make_tables.new.tx.conn.now) = omega (arith, clean, c.keep_probe.ensures.step.survives.clean) in
    on_then _ _ c.keep_probe.result (λ same none. subst (HasNumber c.args.kind) (sym same) (c.in_ok-make_tables.ensures.made early none))
    (c.keep_probe.ensures.same clean)

pub returns-clause-added : goal.returns-clause-added
returns-clause-added g c clean =
    let early : HasCleanDisk (state g.S.Store c.make_tables.new.tx.conn.now) = omega (arith, clean, c.keep_probe.ensures.step.survives.clean) in
    on_then _ _ c.keep_probe.result
    (λ same. subst (λ d. MakeAll g.S.Store (making_tables c.args.kind) (state g.S.Store c.args.tx.now.conn.now).now d) (sym same) (c.in_ok-make_tables.ensures.added early))
    (c.keep_probe.ensures.same clean)

pub returns-clause-refused : goal.returns-clause-refused
returns-clause-refused g c clean =
    let its = making_tables c.args.kind in
    let old = c.args.tx.now.conn.now in
    let made = c.make_tables.new.tx.conn.now in
    let early : HasCleanDisk (state g.S.Store made) = omega (arith, clean, c.keep_probe.ensures.step.survives.clean) in
    stopped_last g.S.Store (RefusesOne g.S.Store asking) (RefusesOne g.S.Store (its ++ asking)) old made c.keep_probe.new.tx.conn.now c.keep_probe.result
    c.make_tables.ensures.step.survives
    (λ before after e. one_later g.S.Store its asking (state g.S.Store old).now (state g.S.Store made).now before after e (c.in_ok-make_tables.ensures.added early))
    (c.keep_probe.ensures.refused clean)

pub returns-clause-step : goal.returns-clause-step
returns-clause-step g c =
    step_then g.S.Store c.args.tx.now.conn c.make_tables.new.tx.conn c.keep_probe.new.tx.conn _ _ c.make_tables.ensures.step c.keep_probe.ensures.step

pub returns-in_err-make_tables-clause-refused : goal.returns-in_err-make_tables-clause-refused
returns-in_err-make_tables-clause-refused g c clean =
    let its = making_tables c.args.kind in
    let it = c.in_err-make_tables.ensures.refused clean in
    err_too _ c.from_residual.result _ c.from_residual.ensures (stopped_as g.S.Store (RefusesOne g.S.Store its) (RefusesOne g.S.Store (its ++ asking)) c.args.tx.now.conn.now
    c.make_tables.new.tx.conn.now _ (λ before after. one_first g.S.Store its asking _ before after _) it)

pub returns-in_err-make_tables-clause-step : goal.returns-in_err-make_tables-clause-step
returns-in_err-make_tables-clause-step g c = step_too g.S.Store _ _ _ c.from_residual.result c.from_residual.ensures c.in_err-make_tables.ensures.step
