use Rattle.std.proofs.Common.{rules, ◌≡◌, not, IsTrue, List, refl, sym, ap, subst, ◌∙◌}
use Rattle.std.specs.Prelude.{OnOk}
use Rattle.sqlite.specs.State.{HasCleanDisk}
use Rattle.sqlite.specs.Held.{state}
use Rattle.sqlite.specs.Term.{Term}
use Rattle.dnp_eventbuf.specs.EventBuffer.{EventBuffer}
use Rattle.dnp_store.specs.QueueTables.{HoldsBuffer, IsQueue, queue_schema}
use Rattle.dnp_store.specs.PairTables.{HoldsPair, IsPair, migrated}
use Rattle.dnp_store.specs.steps.Seconds.{IsSecond, Opens}
use Rattle.dnp_store.specs.Added.{AreMadeBy, MakeAll, making_second}
use Rattle.dnp_store.proofs.Adding.{both_too}
use Rattle.dnp_store.proofs.Statements.{second}
use Rattle.dnp_store.proofs.Ending.{end_err, end_ok, end_survives, end_unmade}
use Rattle.dnp_store.proofs.Standing.{stands_if}
use Rattle.dnp_store.proofs.Stepping.{on_then}
use Rattle.dnp_store.proofs.queue_tables.write_second.Goals as goal

-- the connection that the end leaves is handed back
ended : (g : _) (c : goal.After-conn-1 g) → c.end.new.tx.0 ≡ c.conn-1.given.0
ended g c = search rules

-- the transaction began with what was committed
settled : (g : _) (c : goal.After-conn-1 g) → IsTrue (state g.S.Store c.args.conn.now).is_open
    → (state g.S.Store c.transaction-tx.result.conn.now).now ≡ (state g.S.Store c.args.conn.now).committed
settled g c is_open =
    let idle : IsTrue c.is_autocommit.result = c.is_autocommit.ensures.value ∙ ap not c.requires.idle in
    ap (λ h. (state g.S.Store h).now) c.transaction-tx.ensures.begun ∙ c.is_autocommit.ensures.settled idle is_open

done : (g : _) (c : goal.After-conn-1 g) → ((f q l : List Term) (s : EventBuffer) → (state g.S.Store c.transaction-tx.result.conn.now).now.schema ≡
    queue_schema f q l
    → HoldsBuffer (state g.S.Store c.transaction-tx.result.conn.now).now.trees s
    → IsSecond f q l (migrated s c.args.capacities.now) (state g.S.Store c.make_second-done.new.tx.conn.now).now) → (s : EventBuffer) → Opens
    (state g.S.Store c.args.conn.now) s
    → IsPair (state g.S.Store c.make_second-done.new.tx.conn.now).now (migrated s c.args.capacities.now)
done g c went s stood =
    let was = subst (λ d. IsQueue d s) (sym (settled g c stood.is_open)) stood.holds in
    let it = went was.form_checks was.queue_checks was.lanes_checks s was.schema was.holds in
    record { checks = _; schema = it.schema; behind = refl; holds = it.holds }

pub returns-clause-ok : goal.returns-clause-ok
returns-clause-ok g c clean s stood =
    let b = migrated s c.args.capacities.now in
    stands_if (state g.S.Store c.conn-1.given.0) b c.end.result
    (end_ok g.S.Store c.args.conn.now c.conn-1.given.0 c.transaction-tx.result.conn c.make_second-done.new.tx.conn c.end.new.tx.0 c.make_second-done.result c.end.result
    c.transaction-tx.ensures.begun (ended g c) c.make_second-done.ensures.step c.end.ensures (λ d. IsPair d b) (λ early. on_then _ _ c.make_second-done.result (λ went. done g c went s stood) (c.make_second-done.ensures.made early)) clean)

pub returns-clause-settled : goal.returns-clause-settled
returns-clause-settled g c is_open =
    sym (ap (λ h. (state g.S.Store h).now) c.transaction-tx.ensures.begun) ∙ settled g c is_open

added : (g : _) (c : goal.After-conn-1 g) → HasCleanDisk (state g.S.Store c.make_second-done.new.tx.conn.now)
    → OnOk c.make_second-done.result (MakeAll g.S.Store (making_second c.args.capacities.now) (state g.S.Store c.args.conn.now).now (state g.S.Store c.make_second-done.new.tx.conn.now).now)
added g c early =
    subst (λ h. OnOk c.make_second-done.result (MakeAll g.S.Store (making_second c.args.capacities.now) (state g.S.Store h).now (state g.S.Store c.make_second-done.new.tx.conn.now).now))
    c.transaction-tx.ensures.begun (c.make_second-done.ensures.added early)

pub returns-clause-added : goal.returns-clause-added
returns-clause-added g c clean =
    second _ _ c.end.result
    (end_ok g.S.Store c.args.conn.now c.conn-1.given.0 c.transaction-tx.result.conn c.make_second-done.new.tx.conn c.end.new.tx.0 c.make_second-done.result c.end.result
    c.transaction-tx.ensures.begun (ended g c) c.make_second-done.ensures.step c.end.ensures
    (MakeAll g.S.Store (making_second c.args.capacities.now) (state g.S.Store c.args.conn.now).now) (added g c) clean)

pub returns-clause-survives : goal.returns-clause-survives
returns-clause-survives g c =
    end_survives g.S.Store c.args.conn.now c.conn-1.given.0 c.transaction-tx.result.conn c.make_second-done.new.tx.conn c.end.new.tx.0 c.make_second-done.result c.end.result
    c.transaction-tx.ensures.begun (ended g c) c.make_second-done.ensures.step c.end.ensures
    (λ db. ((s : EventBuffer) → Opens (state g.S.Store c.args.conn.now) s → HoldsPair db (migrated s c.args.capacities.now))
    × AreMadeBy g.S.Store (making_second c.args.capacities.now) (state g.S.Store c.args.conn.now).now db)
    (λ early. both_too _ _ c.make_second-done.result
    (on_then _ _ c.make_second-done.result (λ went s stood. (done g c went s stood).holds) (c.make_second-done.ensures.made early))
    (on_then _ _ c.make_second-done.result (λ made. ((state g.S.Store c.make_second-done.new.tx.conn.now).now, made, refl)) (added g c early)))

pub returns-clause-err : goal.returns-clause-err
returns-clause-err g c = end_err g.S.Store c.args.conn.now c.conn-1.given.0 c.transaction-tx.result.conn c.make_second-done.new.tx.conn c.end.new.tx.0 c.make_second-done.result c.end.result
    c.transaction-tx.ensures.begun (ended g c) c.make_second-done.ensures.step c.end.ensures

pub returns-clause-refused : goal.returns-clause-refused
returns-clause-refused g c = end_unmade g.S.Store c.args.conn.now c.conn-1.given.0 c.transaction-tx.result.conn c.make_second-done.new.tx.conn c.end.new.tx.0 c.make_second-done.result c.end.result
    c.transaction-tx.ensures.begun (ended g c) c.make_second-done.ensures.step c.end.ensures (making_second c.args.capacities.now) c.make_second-done.ensures.refused (added g c)
