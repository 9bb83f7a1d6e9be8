use Rattle.std.proofs.Common.{rules, ◌≡◌, ℕ, not, IsTrue, sym, ap, subst, ◌∙◌}
use Rattle.std.specs.Prelude.{IsSome}
use Rattle.sqlite.specs.Held.{state}
use Rattle.dnp_controls.specs.Book.{IsSoundLedger, Ledger, entry_of, in_state}
use Rattle.dnp_controls.specs.declared.book.State.{State as Control}
use Rattle.dnp_store.specs.BookKept.{BookStands}
use Rattle.dnp_store.specs.BookTables.{HoldsBook, IsBook}
use Rattle.dnp_store.specs.declared.store_kind.StoreKind.TheVariants.{Book}
use Rattle.dnp_store.proofs.Ending.{end_err, end_ok, end_refused, end_survives}
use Rattle.dnp_store.proofs.BookStanding.{stands_if}
use Rattle.dnp_store.proofs.Stepping.{on_then}
use Rattle.dnp_store.proofs.book_writing.write_turned.Goals as goal

-- the connection that the end leaves is handed back
ended : (g : _) (c : goal.After-conn-1 g) → c.end.new.tx.0 ≡ c.conn-1.given.0
ended g c = search rules

-- the transaction began with what was committed
settled : (g : _) (c : goal.After-conn-1 g) → IsTrue (state g.S.Store c.args.conn.now).is_open
    → (state g.S.Store c.transaction-tx.result.conn.now).now ≡ (state g.S.Store c.args.conn.now).committed
settled g c is_open =
    let idle : IsTrue c.is_autocommit.result = c.is_autocommit.ensures.value ∙ ap not c.requires.idle in
    ap (λ h. (state g.S.Store h).now) c.transaction-tx.ensures.begun ∙ c.is_autocommit.ensures.settled idle is_open

abbrev turned : Ledger → ℕ → Control → Ledger
turned a id s = record a { entries = in_state a.entries id s }

was : (g : _) (c : goal.After-conn-1 g) (a : Ledger) → BookStands (state g.S.Store c.args.conn.now) a
    → IsBook (state g.S.Store c.transaction-tx.result.conn.now).now a
was g c a stood = subst (λ d. IsBook d a) (sym (settled g c stood.is_open)) stood.holds

pub returns-clause-ok : goal.returns-clause-ok
returns-clause-ok g c clean a sound there stood =
    let b = turned a c.args.id c.args.control in
    stands_if (state g.S.Store c.conn-1.given.0) b c.end.result
    (end_ok g.S.Store c.args.conn.now c.conn-1.given.0 c.transaction-tx.result.conn c.turn-done.new.tx.conn c.end.new.tx.0 c.turn-done.result c.end.result
    c.transaction-tx.ensures.begun (ended g c) c.turn-done.ensures.step c.end.ensures (λ d. IsBook d b) (λ early. on_then _ _ c.turn-done.result (λ went. went a sound there (was g c a stood)) (c.turn-done.ensures.turned early)) clean)

pub returns-clause-survives : goal.returns-clause-survives
returns-clause-survives g c =
    end_survives g.S.Store c.args.conn.now c.conn-1.given.0 c.transaction-tx.result.conn c.turn-done.new.tx.conn c.end.new.tx.0 c.turn-done.result c.end.result
    c.transaction-tx.ensures.begun (ended g c) c.turn-done.ensures.step c.end.ensures
    (λ db. (a : Ledger) → IsSoundLedger a → IsSome (entry_of a.entries c.args.id) → BookStands (state g.S.Store c.args.conn.now) a
    → HoldsBook db (turned a c.args.id c.args.control))
    (λ early. on_then _ _ c.turn-done.result (λ went a sound there stood. (went a sound there (was g c a stood)).holds) (c.turn-done.ensures.turned early))

pub returns-clause-err : goal.returns-clause-err
returns-clause-err g c = end_err g.S.Store c.args.conn.now c.conn-1.given.0 c.transaction-tx.result.conn c.turn-done.new.tx.conn c.end.new.tx.0 c.turn-done.result c.end.result
    c.transaction-tx.ensures.begun (ended g c) c.turn-done.ensures.step c.end.ensures

pub returns-clause-refused : goal.returns-clause-refused
returns-clause-refused g c = end_refused g.S.Store c.args.conn.now c.conn-1.given.0 c.transaction-tx.result.conn c.turn-done.new.tx.conn c.end.new.tx.0 c.turn-done.result c.end.result
    c.transaction-tx.ensures.begun (ended g c) c.turn-done.ensures.step c.end.ensures Book c.turn-done.ensures.refused
