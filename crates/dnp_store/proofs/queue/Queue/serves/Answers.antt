use Rattle.std.proofs.Common.{IsTrue, refl, subst}
use Rattle.sqlite.specs.State.{HasCleanDisk}
use Rattle.sqlite.specs.Held.{state}
use Rattle.dnp_store.specs.QueueKept.{QueueValue, LeavesQueue, QueueStands}
use Rattle.dnp_store.specs.PairTables.{HoldsPair, IsPair}
use Rattle.dnp_store.proofs.InMemory.{runs_on}
use Rattle.dnp_store.proofs.Standing.{holding}
use Rattle.dnp_store.proofs.Writing.{leaves_now}
use Rattle.dnp_store.proofs.queue.Queue.serves.Goals as goal

pub returns-clause-left : goal.returns-clause-left
returns-clause-left g c clean serves own =
    let stands : QueueStands (state g.S.Store c.args.self.now.conn) c.args.self.now.sides =
    subst (λ (k : QueueValue _). HasCleanDisk (state g.S.Store k.conn) → IsTrue k.owned → QueueStands (state g.S.Store k.conn) k.sides) c.self.view_is
    (λ clean own. c.self.invariant.stands (runs_on c.self.inside.stopped _ refl serves) own clean) clean own in
    leaves_now IsPair HoldsPair holding (state g.S.Store c.args.self.now.conn) c.args.self.now.sides (g.met.S.Store.settled c.args.self.now.conn.store) stands
