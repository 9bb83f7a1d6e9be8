use Rattle.std.proofs.Common.{arith}
use Rattle.sqlite.specs.State.{HasCleanDisk}
use Rattle.sqlite.specs.Held.{state}
use Rattle.dnp_store.proofs.Running.{err_too, none_left, one_more, step_too, texts_in}
use Rattle.dnp_store.proofs.Stepping.{step_none, step_then}
use Rattle.dnp_store.proofs.Stopping.{text_ran, text_refused}
use Rattle.dnp_store.proofs.Standing.{survives_itself}
use Rattle.dnp_store.proofs.stores.run_all.Goals as goal

pub loop-text-init : goal.loop-text-init
loop-text-init g c = record { step = step_none g.S.Store c.args.tx.now.conn c.requires.inside; ran = λ clean last rest. rest; stops = λ clean before after e rest. rest }

pub loop-text-preserved : goal.loop-text-preserved
loop-text-preserved g c = record {
  step = step_then g.S.Store c.args.tx.now.conn c.loop-text.tx.conn c.run.new.tx.conn _ _ c.loop-text.invariant.step c.in_ok-run.ensures.step;
  ran = λ clean.
      let early : HasCleanDisk (state g.S.Store c.loop-text.tx.conn.now) = omega (arith, clean, c.run.ensures.step.survives.clean) in
      one_more g.S.Store (texts_in c.args.texts.now) c.args.texts.now c.loop-text.text-index _ c.args.tx.now.conn.now c.loop-text.tx.conn.now
      c.run.new.tx.conn.now c.loop-text-test.true (c.in_ok-run.ensures.ran clean) (c.loop-text.invariant.ran early);
  stops = λ clean.
      let early : HasCleanDisk (state g.S.Store c.loop-text.tx.conn.now) = omega (arith, clean, c.run.ensures.step.survives.clean) in
      text_ran g.S.Store (texts_in c.args.texts.now) c.args.texts.now c.loop-text.text-index _ c.args.tx.now.conn.now c.loop-text.tx.conn.now
      c.run.new.tx.conn.now c.loop-text-test.true (c.loop-text.invariant.stops early) (c.in_ok-run.ensures.ran clean);
}

pub returns-in_err-run-clause-refused : goal.returns-in_err-run-clause-refused
returns-in_err-run-clause-refused g c clean =
    let early : HasCleanDisk (state g.S.Store c.loop-text.tx.conn.now) = omega (arith, clean, c.run.ensures.step.survives.clean) in
    err_too _ c.from_residual.result _ c.from_residual.ensures (record {
      before = c.loop-text.tx.conn.now;
      after = c.run.new.tx.conn.now;
      early = c.loop-text.invariant.step.survives;
      refused = text_refused g.S.Store (texts_in c.args.texts.now) c.args.texts.now c.loop-text.text-index _ c.args.tx.now.conn.now c.loop-text.tx.conn.now
          c.run.new.tx.conn.now c.loop-text-test.true (c.loop-text.invariant.stops early) _ (c.in_err-run.ensures.refused clean);
      late = survives_itself (state g.S.Store c.run.new.tx.conn.now);
    })

pub returns-in_err-run-clause-step : goal.returns-in_err-run-clause-step
returns-in_err-run-clause-step g c =
    step_too g.S.Store _ _ _ c.from_residual.result c.from_residual.ensures
    (step_then g.S.Store c.args.tx.now.conn c.loop-text.tx.conn c.run.new.tx.conn _ _ c.loop-text.invariant.step c.in_err-run.ensures.step)

pub returns-clause-ran : goal.returns-clause-ran
returns-clause-ran g c clean =
    none_left g.S.Store (texts_in c.args.texts.now) c.args.texts.now c.loop-text.text-index c.args.tx.now.conn.now c.loop-text.tx.conn.now (omega arith)
    (c.loop-text.invariant.ran clean)

pub returns-clause-step : goal.returns-clause-step
returns-clause-step g c = c.loop-text.invariant.step
