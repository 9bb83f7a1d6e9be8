use Rattle.std.proofs.Common.{rules, ◌≡◌, not, IsTrue, sym, ap, subst, ◌∙◌}
use Rattle.sqlite.specs.Held.{state}
use Rattle.dnp_eventbuf.specs.EventBuffer.{EventBuffer}
use Rattle.dnp_store.specs.steps.Steps.{released}
use Rattle.dnp_store.specs.QueueKept.{QueueStands}
use Rattle.dnp_store.specs.PairTables.{HoldsPair, IsPair}
use Rattle.dnp_store.specs.steps.Pairs.{IsFor, sides_of}
use Rattle.dnp_store.specs.declared.store_kind.StoreKind.TheVariants.{Queue}
use Rattle.dnp_store.proofs.Ending.{end_err, end_ok, end_refused, end_survives}
use Rattle.dnp_store.proofs.PairSides.{for_of, pair_of}
use Rattle.dnp_store.proofs.Standing.{stands_if}
use Rattle.dnp_store.proofs.Stepping.{on_then}
use Rattle.dnp_store.proofs.queue_release.write_release.Goals as goal

-- the connection that the end leaves is handed back
ended : (g : _) (c : goal.After-conn-1 g) → c.end.new.tx.0 ≡ c.conn-1.given.0
ended g c = search rules

-- the transaction began with what was committed
settled : (g : _) (c : goal.After-conn-1 g) → IsTrue (state g.S.Store c.args.conn.now).is_open
    → (state g.S.Store c.transaction-tx.result.conn.now).now ≡ (state g.S.Store c.args.conn.now).committed
settled g c is_open =
    let idle : IsTrue c.is_autocommit.result = c.is_autocommit.ensures.value ∙ ap not c.requires.idle in
    ap (λ h. (state g.S.Store h).now) c.transaction-tx.ensures.begun ∙ c.is_autocommit.ensures.settled idle is_open

-- the lanes on the side, before and after
done : (g : _) (c : goal.After-conn-1 g) → ((others : EventBuffer) → IsFor c.args.side others (state g.S.Store c.transaction-tx.result.conn.now).now
    c.args.lanes.now
    → IsFor c.args.side others (state g.S.Store c.release_in-done.new.tx.conn.now).now (released c.args.lanes.now c.args.upto.now c.args.lower)) →
    (others : EventBuffer)
    → QueueStands (state g.S.Store c.args.conn.now) (sides_of c.args.side c.args.lanes.now others)
    → IsPair (state g.S.Store c.release_in-done.new.tx.conn.now).now (sides_of c.args.side (released c.args.lanes.now c.args.upto.now c.args.lower) others)
done g c went others stood =
    let begun = state g.S.Store c.transaction-tx.result.conn.now in
    let side = c.args.side in
    let s = c.args.lanes.now in
    pair_of side others (released c.args.lanes.now c.args.upto.now c.args.lower) (state g.S.Store c.release_in-done.new.tx.conn.now).now
    (went others (for_of side others s begun.now (subst (λ d. IsPair d (sides_of side s others)) (sym (settled g c stood.is_open)) stood.holds)))

pub returns-clause-ok : goal.returns-clause-ok
returns-clause-ok g c clean others stood =
    let next = sides_of c.args.side (released c.args.lanes.now c.args.upto.now c.args.lower) others in
    stands_if (state g.S.Store c.conn-1.given.0) next c.end.result
    (end_ok g.S.Store c.args.conn.now c.conn-1.given.0 c.transaction-tx.result.conn c.release_in-done.new.tx.conn c.end.new.tx.0 c.release_in-done.result c.end.result
    c.transaction-tx.ensures.begun (ended g c) c.release_in-done.ensures.step c.end.ensures (λ d. IsPair d next)
    (λ early. on_then _ _ c.release_in-done.result (λ went. done g c went others stood) (c.release_in-done.ensures.released early)) clean)

pub returns-clause-survives : goal.returns-clause-survives
returns-clause-survives g c =
    end_survives g.S.Store c.args.conn.now c.conn-1.given.0 c.transaction-tx.result.conn c.release_in-done.new.tx.conn c.end.new.tx.0 c.release_in-done.result c.end.result
    c.transaction-tx.ensures.begun (ended g c) c.release_in-done.ensures.step c.end.ensures
    (λ db. (others : EventBuffer) → QueueStands (state g.S.Store c.args.conn.now) (sides_of c.args.side c.args.lanes.now others)
    → HoldsPair db (sides_of c.args.side (released c.args.lanes.now c.args.upto.now c.args.lower) others))
    (λ early. on_then _ _ c.release_in-done.result (λ went others stood. (done g c went others stood).holds) (c.release_in-done.ensures.released early))

pub returns-clause-err : goal.returns-clause-err
returns-clause-err g c = end_err g.S.Store c.args.conn.now c.conn-1.given.0 c.transaction-tx.result.conn c.release_in-done.new.tx.conn c.end.new.tx.0 c.release_in-done.result c.end.result
    c.transaction-tx.ensures.begun (ended g c) c.release_in-done.ensures.step c.end.ensures

pub returns-clause-refused : goal.returns-clause-refused
returns-clause-refused g c = end_refused g.S.Store c.args.conn.now c.conn-1.given.0 c.transaction-tx.result.conn c.release_in-done.new.tx.conn c.end.new.tx.0 c.release_in-done.result c.end.result
    c.transaction-tx.ensures.begun (ended g c) c.release_in-done.ensures.step c.end.ensures Queue c.release_in-done.ensures.refused
