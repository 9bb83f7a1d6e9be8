use Rattle.std.proofs.Common.{[], arith}
use Rattle.sqlite.specs.State.{HasCleanDisk}
use Rattle.sqlite.specs.Held.{state}
use Rattle.dnp_store.proofs.Reading.{was_open, is_inside, keeps}
use Rattle.dnp_store.proofs.stores.list.Goals as goal

pub returns-clause-step : goal.returns-clause-step
returns-clause-step g c =
    let old = state g.S.Store c.args.tx.now.conn.now in
    let new = state g.S.Store c.query_all.new.self.conn.now in
    let sql = c.args.sql.now in
    let early = λ (clean : HasCleanDisk new).
    (let was : HasCleanDisk old = omega (arith, clean, c.query_all.ensures.survives.clean) in c.requires.inside was) in
    record {
      same_reference = c.query_all.ensures.same_reference;
      inside = λ clean. is_inside old new sql [] (early clean) c.query_all.result (c.query_all.ensures.ok clean);
      kept = λ clean. keeps old new sql [] (early clean) c.query_all.result (c.query_all.ensures.ok clean) (c.query_all.ensures.err clean);
      survives = c.query_all.ensures.survives;
    }

pub returns-clause-open : goal.returns-clause-open
returns-clause-open g c clean =
    let old = state g.S.Store c.args.tx.now.conn.now in
    let early : HasCleanDisk old = omega (arith, c.query_all.ensures.survives.clean) in
    was_open old (state g.S.Store c.query_all.new.self.conn.now) c.args.sql.now [] (c.requires.inside early) c.query_all.result (c.query_all.ensures.ok clean)
