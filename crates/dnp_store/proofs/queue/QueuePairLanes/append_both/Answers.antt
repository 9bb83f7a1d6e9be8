use Rattle.std.proofs.Common.{◌≡◌, false, IsTrue, subst}
use Rattle.std.specs.Prelude.{OnOk}
use Rattle.sqlite.specs.Held.{state}
use Rattle.dnp_store.specs.QueueKept.{QueueValue, LeavesQueue, LeavesEitherQueue}
use Rattle.dnp_store.specs.PairTables.{both_with}
use Rattle.dnp_store.proofs.queue.QueuePairLanes.append_both.Goals as goal

pub invariant_of-self : goal.invariant_of-self
invariant_of-self g c =
    let did = c.append_both_to-answer.ensures in record {
      idle = did.written.idle;
      first = did.first;
      second = did.second;
      stands = λ serves own clean.
          did.written.stands clean tt (c.self.invariant.stands c.if-self.false own (did.written.clean clean))
          (c.is_device-self-inside.ensures.other serves);
    }

pub returns-clause-either : goal.returns-clause-either
returns-clause-either g c clean =
    let wrote = c.append_both_to-answer.ensures.written in
    subst (λ (k : QueueValue _). k.stopped ≡ false → IsTrue k.owned
    → LeavesEitherQueue (state g.S.Store c.append_both_to-answer.new.conn) k.sides (both_with k.sides c.args.rows.now)) c.self.view_is
    (λ serves own. wrote.either clean tt (c.self.invariant.stands serves own (wrote.clean clean)))

pub returns-clause-after : goal.returns-clause-after
returns-clause-after g c clean =
    let wrote = c.append_both_to-answer.ensures.written in
    subst (λ (k : QueueValue _). IsTrue k.owned → OnOk c.append_both_to-answer.result (LeavesQueue (state g.S.Store c.append_both_to-answer.new.conn)
    (record { first = c.append_both_to-answer.new.first; second = c.append_both_to-answer.new.second }))) c.self.view_is
    (λ own. wrote.after clean tt (c.self.invariant.stands c.if-self.false own (wrote.clean clean)))
