use Rattle.std.proofs.Common.{arith}
use Rattle.sqlite.specs.State.{HasCleanDisk}
use Rattle.sqlite.specs.Held.{state}
use Rattle.dnp_store.proofs.Trimming.{appended}
use Rattle.dnp_store.specs.declared.store_kind.StoreKind.TheVariants.{Queue}
use Rattle.dnp_store.proofs.Refusing.{refused_last}
use Rattle.dnp_store.proofs.Stepping.{on_then, step_then}
use Rattle.dnp_store.proofs.Running.{err_too, step_too}
use Rattle.dnp_store.proofs.queue_writing.append_in.Goals as goal

pub returns-clause-appended : goal.returns-clause-appended
returns-clause-appended g c clean =
    let old = state g.S.Store c.args.tx.now.conn.now in
    let mid = state g.S.Store c.insert_all.new.tx.conn.now in
    let new = state g.S.Store c.trim_all.new.tx.conn.now in
    let early : HasCleanDisk mid = omega (arith, c.trim_all.ensures.step.survives.clean) in
    on_then _ _ c.trim_all.result (λ trimmed others held. appended c.a_lane_keeps_its_latest_rows.ensures c.args.side others old.now mid.now new.now
    c.args.lanes.now c.args.rows.now c.requires.sound c.requires.after held (c.in_ok-insert_all.ensures.added early others) (trimmed others))
    (c.trim_all.ensures.trimmed clean)

pub returns-clause-step : goal.returns-clause-step
returns-clause-step g c =
    step_then g.S.Store c.args.tx.now.conn c.insert_all.new.tx.conn c.trim_all.new.tx.conn _ _ c.insert_all.ensures.step c.trim_all.ensures.step

pub returns-clause-refused : goal.returns-clause-refused
returns-clause-refused g c clean =
    refused_last g.S.Store Queue c.args.tx.now.conn.now c.insert_all.new.tx.conn.now c.trim_all.new.tx.conn.now c.trim_all.result
    c.insert_all.ensures.step.survives (c.trim_all.ensures.refused clean)

pub trim_all-requires-clause-inside : goal.trim_all-requires-clause-inside
trim_all-requires-clause-inside g c = c.in_ok-insert_all.ensures.step.inside

pub returns-in_err-insert_all-clause-refused : goal.returns-in_err-insert_all-clause-refused
returns-in_err-insert_all-clause-refused g c clean = err_too _ c.from_residual.result _ c.from_residual.ensures (c.in_err-insert_all.ensures.refused clean)

pub returns-in_err-insert_all-clause-step : goal.returns-in_err-insert_all-clause-step
returns-in_err-insert_all-clause-step g c = step_too g.S.Store _ _ _ c.from_residual.result c.from_residual.ensures c.in_err-insert_all.ensures.step
