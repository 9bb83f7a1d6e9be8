use Rattle.std.proofs.Common.{Ok, Err, false, arith}
use Rattle.sqlite.specs.Held.{state}
use Rattle.sqlite.specs.State.{HasCleanDisk}
use Rattle.sqlite.specs.Values.{bound}
use Rattle.sqlite.proofs.InsideLemmas.{inside_keeps}
use Rattle.dnp_store.proofs.stores.run.Goals as goal

pub returns-in-Ok-clause-step : goal.returns-in-Ok-clause-step
returns-in-Ok-clause-step g c =
    let old = state g.S.Store c.args.tx.now.conn.now in
    let new = state g.S.Store c.execute.new.self.conn.now in
    let early : HasCleanDisk new → HasCleanDisk old = λ clean. omega (arith, clean, c.execute.ensures.survives.clean) in
    record {
      same_reference = c.execute.ensures.same_reference;
      inside = λ clean. (c.in-Ok.ensures.runs clean (c.requires.inside (early clean))).1.mode;
      kept = λ clean. inside_keeps old new 0 false c.args.sql.now (bound c.args.params.now) (Ok c.in-Ok._count)
          (c.in-Ok.ensures.runs clean (c.requires.inside (early clean)));
      survives = c.execute.ensures.survives;
    }

pub returns-in-Ok-clause-ran : goal.returns-in-Ok-clause-ran
returns-in-Ok-clause-ran g c clean =
    let early : HasCleanDisk (state g.S.Store c.args.tx.now.conn.now) = omega (arith, clean, c.execute.ensures.survives.clean) in
    (c.in-Ok._count, (c.in-Ok.ensures.runs clean (c.requires.inside early)).0)

pub returns-in-Err-clause-step : goal.returns-in-Err-clause-step
returns-in-Err-clause-step g c =
    let old = state g.S.Store c.args.tx.now.conn.now in
    let new = state g.S.Store c.execute.new.self.conn.now in
    let early : HasCleanDisk new → HasCleanDisk old = λ clean. omega (arith, clean, c.execute.ensures.survives.clean) in
    record {
      same_reference = c.execute.ensures.same_reference;
      inside = λ clean. tt;
      kept = λ clean. inside_keeps old new 0 false c.args.sql.now (bound c.args.params.now) (Err c.in-Err.error)
          (c.in-Err.ensures.runs clean (c.requires.inside (early clean)));
      survives = c.execute.ensures.survives;
    }

pub returns-in-Err-clause-refused : goal.returns-in-Err-clause-refused
returns-in-Err-clause-refused g c clean =
    let early : HasCleanDisk (state g.S.Store c.args.tx.now.conn.now) = omega (arith, clean, c.execute.ensures.survives.clean) in
    (c.requires.inside early, c.in-Err.ensures.runs clean (c.requires.inside early))
