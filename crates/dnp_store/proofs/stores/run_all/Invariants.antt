use Rattle.std.proofs.Common.{drop}
use Rattle.sqlite.specs.State.{HasCleanDisk}
use Rattle.sqlite.specs.Held.{state}
use Rattle.dnp_store.proofs.Running.{RunsOn, texts_in}
use Rattle.dnp_store.proofs.Stepping.{AreSteps}
use Rattle.dnp_store.proofs.Stopping.{StopsOn}
use Rattle.dnp_store.proofs.stores.run_all.Given as goal

-- with those that are still to come all ran, and a refusal of one of those is one of all of them
abbrev pub invariant-loop-text : goal.invariant-loop-text
invariant-loop-text g l = record {
  step : AreSteps g.S.Store l.fn.tx.conn l.tx.conn;
  ran : HasCleanDisk (state g.S.Store l.tx.conn.now) → RunsOn g.S.Store (texts_in l.texts) (drop l.text-index (texts_in l.texts)) l.fn.tx.conn.now l.tx.conn.now;
  stops : HasCleanDisk (state g.S.Store l.tx.conn.now) → StopsOn g.S.Store (texts_in l.texts) (drop l.text-index (texts_in l.texts)) l.fn.tx.conn.now l.tx.conn.now;
}
