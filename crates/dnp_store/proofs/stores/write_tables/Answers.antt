use Rattle.std.proofs.Common.{rules, ◌≡◌, ap, refl, subst, ◌∙◌}
use Rattle.sqlite.specs.Held.{state}
use Rattle.std.specs.Prelude.{OnOk}
use Rattle.sqlite.specs.State.{HasCleanDisk}
use Rattle.dnp_store.specs.Added.{LeavesMade, MakeAll, making_tables}
use Rattle.dnp_store.specs.Tables.{no_schema}
use Rattle.dnp_store.specs.steps.Stores.{HasNumber, IsFresh}
use Rattle.dnp_store.proofs.Adding.{leaves_made}
use Rattle.dnp_store.proofs.Ending.{end_err, end_ok, end_survives, end_unmade}
use Rattle.dnp_store.proofs.Statements.{second}
use Rattle.dnp_store.proofs.Stepping.{on_then}
use Rattle.dnp_store.proofs.stores.write_tables.Goals as goal

-- the connection that the end leaves is handed back
ended : (g : _) (c : goal.After-conn-1 g) → c.end.new.tx.0 ≡ c.conn-1.given.0
ended g c = search rules

bare : (g : _) (c : goal.After-conn-1 g) → c.args.conn.now.schema ≡ no_schema → (state g.S.Store c.transaction-tx.result.conn.now).now.schema ≡ no_schema
bare g c none = ap (λ h. (state g.S.Store h).now.schema) c.transaction-tx.ensures.begun ∙ none

pub returns-clause-ok : goal.returns-clause-ok
returns-clause-ok g c clean none =
    end_ok g.S.Store c.args.conn.now c.conn-1.given.0 c.transaction-tx.result.conn c.make_store-done.new.tx.conn c.end.new.tx.0 c.make_store-done.result c.end.result
    c.transaction-tx.ensures.begun (ended g c) c.make_store-done.ensures.step c.end.ensures (HasNumber c.args.kind)
    (λ early. on_then _ _ c.make_store-done.result (λ went. went (bare g c none)) (c.make_store-done.ensures.made early)) clean

-- the transaction began with what the connection shows
made : (g : _) (c : goal.After-conn-1 g) → HasCleanDisk (state g.S.Store c.make_store-done.new.tx.conn.now)
    → OnOk c.make_store-done.result (MakeAll g.S.Store (making_tables c.args.kind) (state g.S.Store c.args.conn.now).now (state g.S.Store c.make_store-done.new.tx.conn.now).now)
made g c early =
    subst (λ h. OnOk c.make_store-done.result (MakeAll g.S.Store (making_tables c.args.kind) (state g.S.Store h).now (state g.S.Store c.make_store-done.new.tx.conn.now).now))
    c.transaction-tx.ensures.begun (c.make_store-done.ensures.added early)

pub returns-clause-added : goal.returns-clause-added
returns-clause-added g c clean =
    second _ _ c.end.result
    (end_ok g.S.Store c.args.conn.now c.conn-1.given.0 c.transaction-tx.result.conn c.make_store-done.new.tx.conn c.end.new.tx.0 c.make_store-done.result c.end.result
    c.transaction-tx.ensures.begun (ended g c) c.make_store-done.ensures.step c.end.ensures
    (MakeAll g.S.Store (making_tables c.args.kind) (state g.S.Store c.args.conn.now).now) (made g c) clean)

pub returns-clause-survives : goal.returns-clause-survives
returns-clause-survives g c =
    end_survives g.S.Store c.args.conn.now c.conn-1.given.0 c.transaction-tx.result.conn c.make_store-done.new.tx.conn c.end.new.tx.0 c.make_store-done.result c.end.result
    c.transaction-tx.ensures.begun (ended g c) c.make_store-done.ensures.step c.end.ensures
    (LeavesMade g.S.Store (making_tables c.args.kind) IsFresh (state g.S.Store c.args.conn.now).now)
    (λ early. leaves_made g.S.Store (making_tables c.args.kind) IsFresh _ _ c.make_store-done.result
    (on_then _ _ c.make_store-done.result (λ went none. (went (bare g c none)).holds) (c.make_store-done.ensures.made early)) (made g c early))

pub returns-clause-err : goal.returns-clause-err
returns-clause-err g c = end_err g.S.Store c.args.conn.now c.conn-1.given.0 c.transaction-tx.result.conn c.make_store-done.new.tx.conn c.end.new.tx.0 c.make_store-done.result c.end.result
    c.transaction-tx.ensures.begun (ended g c) c.make_store-done.ensures.step c.end.ensures

pub returns-clause-refused : goal.returns-clause-refused
returns-clause-refused g c = end_unmade g.S.Store c.args.conn.now c.conn-1.given.0 c.transaction-tx.result.conn c.make_store-done.new.tx.conn c.end.new.tx.0 c.make_store-done.result c.end.result
    c.transaction-tx.ensures.begun (ended g c) c.make_store-done.ensures.step c.end.ensures (making_tables c.args.kind) c.make_store-done.ensures.refused (made g c)
