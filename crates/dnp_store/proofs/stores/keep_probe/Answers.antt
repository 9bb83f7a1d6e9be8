use Rattle.std.proofs.Common.{[], inl, arith, ◌∙◌, refl, false}
use Rattle.sqlite.specs.State.{HasCleanDisk}
use Rattle.sqlite.specs.Held.{state}
use Rattle.sqlite.proofs.InsideLemmas.{unchanged_keeps, not_run_inside}
use Rattle.dnp_store.proofs.Standing.{keeps_commit}
use Rattle.dnp_store.specs.Refusals.{RefusesOne, asking}
use Rattle.dnp_store.proofs.Stopping.{stopped_here}
use Rattle.dnp_store.proofs.stores.keep_probe.Goals as goal

pub returns-in-Ok-clause-step : goal.returns-in-Ok-clause-step
returns-in-Ok-clause-step g c =
    let old = state g.S.Store c.args.tx.now.conn.now in
    let new = state g.S.Store c.prepare.new.self.conn.now in
    record {
      same_reference = c.prepare.ensures.same_reference;
      inside = λ clean.
          let was : HasCleanDisk old = omega (arith, clean, c.prepare.ensures.survives.clean) in
          (c.in-Ok.ensures.ok clean).1.0.mode ∙ c.requires.inside was;
      kept = λ clean. unchanged_keeps old new (inl (c.in-Ok.ensures.ok clean).1);
      survives = c.prepare.ensures.survives;
    }

pub returns-in-Err-clause-step : goal.returns-in-Err-clause-step
returns-in-Err-clause-step g c =
    let old = state g.S.Store c.args.tx.now.conn.now in
    let new = state g.S.Store c.prepare.new.self.conn.now in
    record {
      same_reference = c.prepare.ensures.same_reference;
      inside = λ clean. tt;
      kept = λ clean. keeps_commit old new _ [] _ (c.in-Err.ensures.err clean []);
      survives = c.prepare.ensures.survives;
    }

pub returns-in-Err-clause-refused : goal.returns-in-Err-clause-refused
returns-in-Err-clause-refused g c clean =
    let old = state g.S.Store c.args.tx.now.conn.now in
    let new = state g.S.Store c.prepare.new.self.conn.now in
    let was : HasCleanDisk old = omega (arith, clean, c.prepare.ensures.survives.clean) in
    stopped_here g.S.Store (RefusesOne g.S.Store asking) c.args.tx.now.conn.now c.prepare.new.self.conn.now _
    (inl (refl, c.requires.inside was, not_run_inside old new 0 false [] [] _ (c.in-Err.ensures.err clean [])))
