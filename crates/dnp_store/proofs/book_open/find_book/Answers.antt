use Rattle.std.proofs.Common.{rules, ◌≡◌, Bool, IsTrue, false, Err, ap, inl, inr, ◌∙◌, arith}
use Rattle.sqlite.specs.Effect.{Database}
use Rattle.sqlite.specs.Held.{state}
use Rattle.sqlite.specs.State.{HasCleanDisk}
use Rattle.dnp_store.specs.declared.book_opening.FoundBook.{FoundBook}
use Rattle.dnp_store.specs.steps.BookShown.{FindsBook}
use Rattle.dnp_store.proofs.Beginning.{found_inside, found_read}
use Rattle.dnp_store.proofs.BookOpening.{found_again}
use Rattle.dnp_store.proofs.Outcomes.{at_ok, at_ok_on, on_each}
use Rattle.dnp_store.proofs.Stepping.{if_ok}
use Rattle.dnp_store.proofs.Unread.{at_err, err_each}
use Rattle.dnp_store.proofs.book_open.find_book.Goals as goal

pub returns-then-not-is_autocommit-clause-found : goal.returns-then-not-is_autocommit-clause-found
returns-then-not-is_autocommit-clause-found g c =
    let inside : IsTrue c.args.conn.now.in_transaction = search rules in
    found_inside g.S.Store _ c.args.conn.now inside

pub returns-clause-found : goal.returns-clause-found
returns-clause-found g c =
    let idle : c.args.conn.now.in_transaction ≡ false = search rules in
    found_read g.S.Store _ c.args.conn.now c.read_book-read.new.conn c.served.new.conn
    (λ (db : Database) (found : FoundBook × Bool). IsTrue found.1 → FindsBook db c.read_book-read.new.entries.items found.0.last_id) c.read_book-read.result
    c.served.result idle
    c.read_book-read.ensures.same c.read_book-read.ensures.read c.read_book-read.ensures.survives
    (λ found is_open same finds own. found_again _ (state g.S.Store c.served.new.conn) _ _ is_open same (finds own)) c.served.ensures

pub returns-clause-sound : goal.returns-clause-sound
returns-clause-sound g c =
    if_ok _ _ c.served.result (λ found is. (
      at_ok _ c.read_book-read.result found is c.read_book-read.ensures.sound,
      at_ok _ c.read_book-read.result found is c.read_book-read.ensures.range,
    )) c.served.ensures.handed

pub returns-clause-alone : goal.returns-clause-alone
returns-clause-alone g c clean =
    let early : HasCleanDisk (state g.S.Store c.read_book-read.new.conn) = omega (arith, clean, c.served.ensures.survives.clean) in
    if_ok _ _ c.served.result (λ found is. at_ok _ c.read_book-read.result found is (c.read_book-read.ensures.alone early)) c.served.ensures.handed

pub returns-clause-wrong_form : goal.returns-clause-wrong_form
returns-clause-wrong_form g c clean =
    let early : HasCleanDisk (state g.S.Store c.read_book-read.new.conn) = omega (arith, clean, c.served.ensures.survives.clean) in
    err_each _ c.served.result (λ fault is told.
    let wrong = c.served.ensures.wrong (is ∙ ap Err told) in
    inr (at_err _ c.read_book-read.result wrong.0 wrong.1 (c.read_book-read.ensures.denies early) wrong.2))

pub returns-then-not-is_autocommit-clause-wrong_form : goal.returns-then-not-is_autocommit-clause-wrong_form
returns-then-not-is_autocommit-clause-wrong_form g c clean told =
    let inside : IsTrue c.args.conn.now.in_transaction = search rules in
    inl inside

pub returns-clause-fit : goal.returns-clause-fit
returns-clause-fit g c = if_ok _ _ c.served.result (λ found is. at_ok _ c.read_book-read.result found is c.read_book-read.ensures.fit) c.served.ensures.handed

pub returns-clause-numbered : goal.returns-clause-numbered
returns-clause-numbered g c clean =
    let early : HasCleanDisk (state g.S.Store c.read_book-read.new.conn) = omega (arith, clean, c.served.ensures.survives.clean) in
    on_each _ _ c.served.result (λ found is. at_ok_on _ c.read_book-read.result found is (c.read_book-read.ensures.numbered early)) c.served.ensures.handed

pub returns-clause-entries : goal.returns-clause-entries
returns-clause-entries g c clean =
    let early : HasCleanDisk (state g.S.Store c.read_book-read.new.conn) = omega (arith, clean, c.served.ensures.survives.clean) in
    on_each _ _ c.served.result (λ found is. at_ok_on _ c.read_book-read.result found is (c.read_book-read.ensures.entries early)) c.served.ensures.handed
