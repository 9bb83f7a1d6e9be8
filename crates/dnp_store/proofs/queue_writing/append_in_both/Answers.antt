use Rattle.std.proofs.Common.{arith}
use Rattle.sqlite.specs.State.{HasCleanDisk}
use Rattle.sqlite.specs.Held.{state}
use Rattle.dnp_eventbuf.specs.EventBuffer.{with_rows}
use Rattle.dnp_store.specs.declared.queue_side.QueueSide.TheVariants.{First, Second}
use Rattle.dnp_store.specs.declared.store_kind.StoreKind.TheVariants.{Queue}
use Rattle.dnp_store.proofs.PairSides.{for_of, pair_of}
use Rattle.dnp_store.proofs.Refusing.{refused_last}
use Rattle.dnp_store.proofs.Stepping.{on_then, step_then}
use Rattle.dnp_store.proofs.Running.{err_too, step_too}
use Rattle.dnp_store.proofs.queue_writing.append_in_both.Goals as goal

-- first the one side, and then the other
pub returns-clause-appended : goal.returns-clause-appended
returns-clause-appended g c clean =
    let old = state g.S.Store c.args.tx.now.conn.now in
    let mid = state g.S.Store c.append_in.new.tx.conn.now in
    let new = state g.S.Store c.append_in-2.new.tx.conn.now in
    let early : HasCleanDisk mid = omega (arith, c.append_in-2.ensures.step.survives.clean) in
    let a = c.args.first.now in
    let b = c.args.second.now in
    let more = with_rows a c.args.rows.now in
    on_then _ _ c.append_in-2.result (λ too was.
    let one = pair_of First b more mid.now (c.in_ok-append_in.ensures.appended early b (for_of First b a old.now was)) in
    pair_of Second more (with_rows b c.args.rows.now) new.now (too more (for_of Second more b mid.now one)))
    (c.append_in-2.ensures.appended clean)

pub returns-clause-step : goal.returns-clause-step
returns-clause-step g c =
    step_then g.S.Store c.args.tx.now.conn c.append_in.new.tx.conn c.append_in-2.new.tx.conn _ _ c.append_in.ensures.step c.append_in-2.ensures.step

pub returns-clause-refused : goal.returns-clause-refused
returns-clause-refused g c clean =
    refused_last g.S.Store Queue c.args.tx.now.conn.now c.append_in.new.tx.conn.now c.append_in-2.new.tx.conn.now c.append_in-2.result
    c.append_in.ensures.step.survives (c.append_in-2.ensures.refused clean)

pub returns-in_err-append_in-clause-refused : goal.returns-in_err-append_in-clause-refused
returns-in_err-append_in-clause-refused g c clean = err_too _ c.from_residual.result _ c.from_residual.ensures (c.in_err-append_in.ensures.refused clean)

pub returns-in_err-append_in-clause-step : goal.returns-in_err-append_in-clause-step
returns-in_err-append_in-clause-step g c = step_too g.S.Store _ _ _ c.from_residual.result c.from_residual.ensures c.in_err-append_in.ensures.step
