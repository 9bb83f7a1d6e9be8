use Rattle.std.proofs.Common.{rules, ◌≡◌, not, IsTrue, sym, ap, subst, ◌∙◌}
use Rattle.sqlite.specs.Held.{state}
use Rattle.dnp_eventbuf.specs.EventBuffer.{with_rows}
use Rattle.dnp_store.specs.QueueKept.{QueueStands}
use Rattle.dnp_store.specs.PairTables.{HoldsPair, IsPair}
use Rattle.dnp_store.specs.declared.store_kind.StoreKind.TheVariants.{Queue}
use Rattle.dnp_store.proofs.Ending.{end_err, end_ok, end_refused, end_survives}
use Rattle.dnp_store.proofs.Standing.{stands_if}
use Rattle.dnp_store.proofs.Stepping.{on_then}
use Rattle.dnp_store.proofs.queue_writing.write_both.Goals as goal

-- the connection that the end leaves is handed back
ended : (g : _) (c : goal.After-conn-1 g) → c.end.new.tx.0 ≡ c.conn-1.given.0
ended g c = search rules

-- the transaction began with what was committed
settled : (g : _) (c : goal.After-conn-1 g) → IsTrue (state g.S.Store c.args.conn.now).is_open
    → (state g.S.Store c.transaction-tx.result.conn.now).now ≡ (state g.S.Store c.args.conn.now).committed
settled g c is_open =
    let idle : IsTrue c.is_autocommit.result = c.is_autocommit.ensures.value ∙ ap not c.requires.idle in
    ap (λ h. (state g.S.Store h).now) c.transaction-tx.ensures.begun ∙ c.is_autocommit.ensures.settled idle is_open

-- the lanes of both sides, before
was : (g : _) (c : goal.After-conn-1 g) → QueueStands (state g.S.Store c.args.conn.now) (record { first = c.args.first.now; second = c.args.second.now })
    → IsPair (state g.S.Store c.transaction-tx.result.conn.now).now (record { first = c.args.first.now; second = c.args.second.now })
was g c stood = subst (λ d. IsPair d (record { first = c.args.first.now; second = c.args.second.now })) (sym (settled g c stood.is_open)) stood.holds

pub returns-clause-ok : goal.returns-clause-ok
returns-clause-ok g c clean stood =
    stands_if (state g.S.Store c.conn-1.given.0) (record { first = with_rows c.args.first.now c.args.rows.now; second = with_rows c.args.second.now c.args.rows.now }) c.end.result
    (end_ok g.S.Store c.args.conn.now c.conn-1.given.0 c.transaction-tx.result.conn c.append_in_both-done.new.tx.conn c.end.new.tx.0 c.append_in_both-done.result c.end.result
    c.transaction-tx.ensures.begun (ended g c) c.append_in_both-done.ensures.step c.end.ensures (λ d. IsPair d (record { first = with_rows c.args.first.now c.args.rows.now; second = with_rows c.args.second.now c.args.rows.now }))
    (λ early. on_then _ _ c.append_in_both-done.result (λ went. went (was g c stood)) (c.append_in_both-done.ensures.appended early)) clean)

pub returns-clause-survives : goal.returns-clause-survives
returns-clause-survives g c =
    end_survives g.S.Store c.args.conn.now c.conn-1.given.0 c.transaction-tx.result.conn c.append_in_both-done.new.tx.conn c.end.new.tx.0 c.append_in_both-done.result c.end.result
    c.transaction-tx.ensures.begun (ended g c) c.append_in_both-done.ensures.step c.end.ensures
    (λ db. QueueStands (state g.S.Store c.args.conn.now) (record { first = c.args.first.now; second = c.args.second.now })
    → HoldsPair db (record { first = with_rows c.args.first.now c.args.rows.now; second = with_rows c.args.second.now c.args.rows.now }))
    (λ early. on_then _ _ c.append_in_both-done.result (λ went stood. (went (was g c stood)).holds) (c.append_in_both-done.ensures.appended early))

pub returns-clause-err : goal.returns-clause-err
returns-clause-err g c = end_err g.S.Store c.args.conn.now c.conn-1.given.0 c.transaction-tx.result.conn c.append_in_both-done.new.tx.conn c.end.new.tx.0 c.append_in_both-done.result c.end.result
    c.transaction-tx.ensures.begun (ended g c) c.append_in_both-done.ensures.step c.end.ensures

pub returns-clause-refused : goal.returns-clause-refused
returns-clause-refused g c = end_refused g.S.Store c.args.conn.now c.conn-1.given.0 c.transaction-tx.result.conn c.append_in_both-done.new.tx.conn c.end.new.tx.0 c.append_in_both-done.result c.end.result
    c.transaction-tx.ensures.begun (ended g c) c.append_in_both-done.ensures.step c.end.ensures Queue c.append_in_both-done.ensures.refused
