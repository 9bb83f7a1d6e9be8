use Rattle.std.proofs.Common.{◌≡◌, arith, subst}
use Rattle.sqlite.specs.Held.{state}
use Rattle.dnp_objects.specs.declared.limits.TheConstants.{LANES}
use Rattle.dnp_store.specs.steps.Steps.{IsTrimmed}
use Rattle.dnp_store.specs.declared.store_kind.StoreKind.TheVariants.{Queue}
use Rattle.dnp_store.proofs.Refusing.{refused_after}
use Rattle.dnp_store.proofs.Stepping.{step_then, step_none}
use Rattle.dnp_store.proofs.Running.{err_too, step_too}
use Rattle.dnp_store.proofs.queue_writing.trim_all.Goals as goal

pub returns-clause-trimmed : goal.returns-clause-trimmed
returns-clause-trimmed g c clean others raised h =
    let new = state g.S.Store c.loop-number.tx.conn.now in
    let all : c.loop-number.number ≡ LANES = omega arith in
    subst (λ n. IsTrimmed c.args.side others new.now c.args.lanes.now c.args.rows.now raised n) all (c.loop-number.invariant.trimmed clean others raised h)

pub returns-in_err-trim-clause-refused : goal.returns-in_err-trim-clause-refused
returns-in_err-trim-clause-refused g c clean =
    let here = refused_after g.S.Store Queue c.args.tx.now.conn.now c.loop-number.tx.conn.now c.trim.new.tx.conn.now _ c.loop-number.invariant.step.survives
    (c.in_err-trim.ensures.refused clean) in
    err_too _ c.from_residual.result _ c.from_residual.ensures here

pub returns-in_err-trim-clause-step : goal.returns-in_err-trim-clause-step
returns-in_err-trim-clause-step g c =
    let here = step_then g.S.Store c.args.tx.now.conn c.loop-number.tx.conn c.trim.new.tx.conn _ _ c.loop-number.invariant.step
    c.in_err-trim.ensures.step in
    step_too g.S.Store _ _ _ c.from_residual.result c.from_residual.ensures here

pub loop-number-init : goal.loop-number-init
loop-number-init g c = record { step = step_none g.S.Store c.args.tx.now.conn c.requires.inside; trimmed = λ clean others raised h. h }

pub returns-clause-step : goal.returns-clause-step
returns-clause-step g c = c.loop-number.invariant.step

pub trim-requires-clause-inside : goal.trim-requires-clause-inside
trim-requires-clause-inside g c = c.loop-number.invariant.step.inside
