use Rattle.std.proofs.Common.{rules, ◌≡◌, Bool, IsTrue, false, Err, ap, inl, inr, ◌∙◌, arith}
use Rattle.sqlite.specs.Effect.{Database}
use Rattle.sqlite.specs.Held.{state}
use Rattle.sqlite.specs.State.{HasCleanDisk}
use Rattle.dnp_store.specs.declared.journal_opening.Found.{Found}
use Rattle.dnp_store.specs.steps.JournalShown.{Finds}
use Rattle.dnp_store.proofs.Beginning.{found_inside, found_read}
use Rattle.dnp_store.proofs.JournalStanding.{found_again}
use Rattle.dnp_store.proofs.Outcomes.{at_ok, at_ok_on, on_each}
use Rattle.dnp_store.proofs.Stepping.{if_ok}
use Rattle.dnp_store.proofs.Unread.{at_err, err_each}
use Rattle.dnp_store.proofs.journal_open.find_journal.Goals as goal

pub returns-then-not-is_autocommit-clause-found : goal.returns-then-not-is_autocommit-clause-found
returns-then-not-is_autocommit-clause-found g c =
    let inside : IsTrue c.args.conn.now.in_transaction = search rules in
    found_inside g.S.Store _ c.args.conn.now inside

pub returns-clause-found : goal.returns-clause-found
returns-clause-found g c =
    let idle : c.args.conn.now.in_transaction ≡ false = search rules in
    found_read g.S.Store _ c.args.conn.now c.read_journal-read.new.conn c.served.new.conn
    (λ (db : Database) (found : Found × Bool). IsTrue found.1 → Finds db found.0.last_id found.0.count) c.read_journal-read.result c.served.result idle
    c.read_journal-read.ensures.same c.read_journal-read.ensures.read c.read_journal-read.ensures.survives
    (λ found is_open same finds own. found_again _ (state g.S.Store c.served.new.conn) _ _ is_open same (finds own)) c.served.ensures

pub returns-clause-range : goal.returns-clause-range
returns-clause-range g c = if_ok _ _ c.served.result (λ found is. at_ok _ c.read_journal-read.result found is c.read_journal-read.ensures.range) c.served.ensures.handed

pub returns-clause-alone : goal.returns-clause-alone
returns-clause-alone g c clean =
    let early : HasCleanDisk (state g.S.Store c.read_journal-read.new.conn) = omega (arith, clean, c.served.ensures.survives.clean) in
    if_ok _ _ c.served.result (λ found is. at_ok _ c.read_journal-read.result found is (c.read_journal-read.ensures.alone early)) c.served.ensures.handed

pub returns-clause-wrong_form : goal.returns-clause-wrong_form
returns-clause-wrong_form g c clean =
    let early : HasCleanDisk (state g.S.Store c.read_journal-read.new.conn) = omega (arith, clean, c.served.ensures.survives.clean) in
    err_each _ c.served.result (λ fault is told.
    let wrong = c.served.ensures.wrong (is ∙ ap Err told) in
    inr (at_err _ c.read_journal-read.result wrong.0 wrong.1 (c.read_journal-read.ensures.denies early) wrong.2))

pub returns-then-not-is_autocommit-clause-wrong_form : goal.returns-then-not-is_autocommit-clause-wrong_form
returns-then-not-is_autocommit-clause-wrong_form g c clean told =
    let inside : IsTrue c.args.conn.now.in_transaction = search rules in
    inl inside

pub returns-clause-numbered : goal.returns-clause-numbered
returns-clause-numbered g c clean =
    let early : HasCleanDisk (state g.S.Store c.read_journal-read.new.conn) = omega (arith, clean, c.served.ensures.survives.clean) in
    on_each _ _ c.served.result (λ found is. at_ok_on _ c.read_journal-read.result found is (c.read_journal-read.ensures.numbered early)) c.served.ensures.handed

pub returns-clause-events : goal.returns-clause-events
returns-clause-events g c clean =
    let early : HasCleanDisk (state g.S.Store c.read_journal-read.new.conn) = omega (arith, clean, c.served.ensures.survives.clean) in
    if_ok _ _ c.served.result (λ found is. at_ok _ c.read_journal-read.result found is (c.read_journal-read.ensures.events early)) c.served.ensures.handed
