use Rattle.std.proofs.Common.{rules, ◌≡◌, ℕ, List, ap, subst, ◌∙◌, refl}
use Rattle.std.specs.Prelude.{OnOk}
use Rattle.sqlite.specs.Held.{state}
use Rattle.sqlite.specs.Tree.{Trees}
use Rattle.sqlite.specs.State.{HasCleanDisk}
use Rattle.dnp_eventbuf.specs.EventBuffer.{empty_buffer}
use Rattle.dnp_store.specs.Added.{LeavesMade, MakeAll, making_queue}
use Rattle.dnp_store.specs.Tables.{no_schema}
use Rattle.dnp_store.specs.Schemas.{checks_of_form, checks_of_lanes, checks_of_rows, made_pair}
use Rattle.dnp_store.specs.PairTables.{HoldsPair, IsPair, Sides, migrated}
use Rattle.dnp_store.specs.steps.Seconds.{IsSecond}
use Rattle.dnp_store.specs.declared.store_kind.StoreKind.TheVariants.{Queue}
use Rattle.dnp_store.proofs.Adding.{leaves_made}
use Rattle.dnp_store.proofs.Ending.{end_err, end_ok, end_survives, end_unmade}
use Rattle.dnp_store.proofs.Standing.{stands_if}
use Rattle.dnp_store.proofs.Statements.{second}
use Rattle.dnp_store.proofs.Stepping.{on_then}
use Rattle.dnp_store.proofs.queue_tables.write_tables.Goals as goal

-- the connection that the end leaves is handed back
ended : (g : _) (c : goal.After-conn-1 g) → c.end.new.tx.0 ≡ c.conn-1.given.0
ended g c = search rules

abbrev empties : List ℕ → List ℕ → Sides
empties first second = migrated (empty_buffer first) second

made : (g : _) (c : goal.After-conn-1 g) → c.args.conn.now.schema ≡ no_schema → HasCleanDisk (state g.S.Store c.make_pair-done.new.tx.conn.now)
    → OnOk c.make_pair-done.result (IsSecond checks_of_form (checks_of_rows Queue) checks_of_lanes (empties c.args.first.now c.args.second.now) (state g.S.Store c.make_pair-done.new.tx.conn.now).now)
made g c none early =
    on_then _ _ c.make_pair-done.result (λ went. went (ap (λ h. (state g.S.Store h).now.schema) c.transaction-tx.ensures.begun ∙ none)) (c.make_pair-done.ensures.made early)

pub returns-clause-ok : goal.returns-clause-ok
returns-clause-ok g c clean none =
    let b = empties c.args.first.now c.args.second.now in
    stands_if (state g.S.Store c.conn-1.given.0) b c.end.result
    (end_ok g.S.Store c.args.conn.now c.conn-1.given.0 c.transaction-tx.result.conn c.make_pair-done.new.tx.conn c.end.new.tx.0 c.make_pair-done.result c.end.result
    c.transaction-tx.ensures.begun (ended g c) c.make_pair-done.ensures.step c.end.ensures (λ d. IsPair d b)
    (λ early. on_then (IsSecond checks_of_form (checks_of_rows Queue) checks_of_lanes (empties c.args.first.now c.args.second.now) _) (IsPair _ b) c.make_pair-done.result
    (λ it. record { checks = _; schema = it.schema; behind = refl; holds = it.holds }) (made g c none early)) clean)

-- the transaction began with what the connection shows
added : (g : _) (c : goal.After-conn-1 g) → HasCleanDisk (state g.S.Store c.make_pair-done.new.tx.conn.now)
    → OnOk c.make_pair-done.result (MakeAll g.S.Store (making_queue c.args.first.now c.args.second.now) (state g.S.Store c.args.conn.now).now (state g.S.Store c.make_pair-done.new.tx.conn.now).now)
added g c early =
    subst (λ h. OnOk c.make_pair-done.result (MakeAll g.S.Store (making_queue c.args.first.now c.args.second.now) (state g.S.Store h).now (state g.S.Store c.make_pair-done.new.tx.conn.now).now))
    c.transaction-tx.ensures.begun (c.make_pair-done.ensures.added early)

pub returns-clause-added : goal.returns-clause-added
returns-clause-added g c clean =
    second _ _ c.end.result
    (end_ok g.S.Store c.args.conn.now c.conn-1.given.0 c.transaction-tx.result.conn c.make_pair-done.new.tx.conn c.end.new.tx.0 c.make_pair-done.result c.end.result
    c.transaction-tx.ensures.begun (ended g c) c.make_pair-done.ensures.step c.end.ensures
    (MakeAll g.S.Store (making_queue c.args.first.now c.args.second.now) (state g.S.Store c.args.conn.now).now) (added g c) clean)

pub returns-clause-survives : goal.returns-clause-survives
returns-clause-survives g c =
    let b = empties c.args.first.now c.args.second.now in
    let its = making_queue c.args.first.now c.args.second.now in
    end_survives g.S.Store c.args.conn.now c.conn-1.given.0 c.transaction-tx.result.conn c.make_pair-done.new.tx.conn c.end.new.tx.0 c.make_pair-done.result c.end.result
    c.transaction-tx.ensures.begun (ended g c) c.make_pair-done.ensures.step c.end.ensures
    (LeavesMade g.S.Store its (λ db. HoldsPair db b) (state g.S.Store c.args.conn.now).now)
    (λ early. leaves_made g.S.Store its (λ db. HoldsPair db b) _ _ c.make_pair-done.result
    (on_then _ _ c.make_pair-done.result
    (λ went none. (went (ap (λ h. (state g.S.Store h).now.schema) c.transaction-tx.ensures.begun ∙ none)).holds) (c.make_pair-done.ensures.made early))
    (added g c early))

pub returns-clause-schema : goal.returns-clause-schema
returns-clause-schema g c clean none =
    second _ _ c.end.result
    (end_ok g.S.Store c.args.conn.now c.conn-1.given.0 c.transaction-tx.result.conn c.make_pair-done.new.tx.conn c.end.new.tx.0 c.make_pair-done.result c.end.result
    c.transaction-tx.ensures.begun (ended g c) c.make_pair-done.ensures.step c.end.ensures (λ d. d.schema ≡ made_pair)
    (λ early. on_then (IsSecond checks_of_form (checks_of_rows Queue) checks_of_lanes (empties c.args.first.now c.args.second.now) _) _ c.make_pair-done.result (λ it. it.schema) (made g c none early)) clean)

pub returns-clause-err : goal.returns-clause-err
returns-clause-err g c = end_err g.S.Store c.args.conn.now c.conn-1.given.0 c.transaction-tx.result.conn c.make_pair-done.new.tx.conn c.end.new.tx.0 c.make_pair-done.result c.end.result
    c.transaction-tx.ensures.begun (ended g c) c.make_pair-done.ensures.step c.end.ensures

pub returns-clause-refused : goal.returns-clause-refused
returns-clause-refused g c = end_unmade g.S.Store c.args.conn.now c.conn-1.given.0 c.transaction-tx.result.conn c.make_pair-done.new.tx.conn c.end.new.tx.0 c.make_pair-done.result c.end.result
    c.transaction-tx.ensures.begun (ended g c) c.make_pair-done.ensures.step c.end.ensures (making_queue c.args.first.now c.args.second.now) c.make_pair-done.ensures.refused (added g c)
