use Rattle.std.proofs.Common.{rules, ◌≡◌, not, IsTrue, sym, ap, subst, ◌∙◌}
use Rattle.sqlite.specs.Held.{state}
use Rattle.dnp_eventbuf.specs.Archive.{Archive, with_events}
use Rattle.dnp_store.specs.JournalKept.{JournalStands}
use Rattle.dnp_store.specs.JournalTables.{HoldsArchive, IsJournal}
use Rattle.dnp_store.specs.declared.store_kind.StoreKind.TheVariants.{Journal}
use Rattle.dnp_store.proofs.Ending.{end_err, end_ok, end_refused, end_survives}
use Rattle.dnp_store.proofs.JournalStanding.{stands_if}
use Rattle.dnp_store.proofs.Stepping.{on_then}
use Rattle.dnp_store.proofs.journal_writing.write_events.Goals as goal

-- the connection that the end leaves is handed back
ended : (g : _) (c : goal.After-conn-1 g) → c.end.new.tx.0 ≡ c.conn-1.given.0
ended g c = search rules

-- the transaction began with what was committed
settled : (g : _) (c : goal.After-conn-1 g) → IsTrue (state g.S.Store c.args.conn.now).is_open
    → (state g.S.Store c.transaction-tx.result.conn.now).now ≡ (state g.S.Store c.args.conn.now).committed
settled g c is_open =
    let idle : IsTrue c.is_autocommit.result = c.is_autocommit.ensures.value ∙ ap not c.requires.idle in
    ap (λ h. (state g.S.Store h).now) c.transaction-tx.ensures.begun ∙ c.is_autocommit.ensures.settled idle is_open

was : (g : _) (c : goal.After-conn-1 g) (a : Archive) → JournalStands (state g.S.Store c.args.conn.now) a
    → IsJournal (state g.S.Store c.transaction-tx.result.conn.now).now a
was g c a stood = subst (λ d. IsJournal d a) (sym (settled g c stood.is_open)) stood.holds

pub returns-clause-ok : goal.returns-clause-ok
returns-clause-ok g c clean a stood =
    let b = with_events a c.args.events.now in
    stands_if (state g.S.Store c.conn-1.given.0) b c.end.result
    (end_ok g.S.Store c.args.conn.now c.conn-1.given.0 c.transaction-tx.result.conn c.insert_all-done.new.tx.conn c.end.new.tx.0 c.insert_all-done.result c.end.result
    c.transaction-tx.ensures.begun (ended g c) c.insert_all-done.ensures.step c.end.ensures (λ d. IsJournal d b)
    (λ early. on_then _ _ c.insert_all-done.result (λ went. went a (was g c a stood)) (c.insert_all-done.ensures.added early)) clean)

pub returns-clause-survives : goal.returns-clause-survives
returns-clause-survives g c =
    end_survives g.S.Store c.args.conn.now c.conn-1.given.0 c.transaction-tx.result.conn c.insert_all-done.new.tx.conn c.end.new.tx.0 c.insert_all-done.result c.end.result
    c.transaction-tx.ensures.begun (ended g c) c.insert_all-done.ensures.step c.end.ensures
    (λ db. (a : Archive) → JournalStands (state g.S.Store c.args.conn.now) a → HoldsArchive db (with_events a c.args.events.now))
    (λ early. on_then _ _ c.insert_all-done.result (λ went a stood. (went a (was g c a stood)).holds) (c.insert_all-done.ensures.added early))

pub returns-clause-err : goal.returns-clause-err
returns-clause-err g c = end_err g.S.Store c.args.conn.now c.conn-1.given.0 c.transaction-tx.result.conn c.insert_all-done.new.tx.conn c.end.new.tx.0 c.insert_all-done.result c.end.result
    c.transaction-tx.ensures.begun (ended g c) c.insert_all-done.ensures.step c.end.ensures

pub returns-clause-refused : goal.returns-clause-refused
returns-clause-refused g c = end_refused g.S.Store c.args.conn.now c.conn-1.given.0 c.transaction-tx.result.conn c.insert_all-done.new.tx.conn c.end.new.tx.0 c.insert_all-done.result c.end.result
    c.transaction-tx.ensures.begun (ended g c) c.insert_all-done.ensures.step c.end.ensures Journal c.insert_all-done.ensures.refused
