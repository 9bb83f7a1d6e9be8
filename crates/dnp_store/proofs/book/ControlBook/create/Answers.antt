use Rattle.std.proofs.Common.{rules, ◌≡◌, Err, IsTrue, refl, arith, ap}
use Rattle.sqlite.specs.State.{HasCleanDisk}
use Rattle.sqlite.specs.Held.{state}
use Rattle.dnp_controls.specs.Book.{empty_ledger}
use Rattle.dnp_store.specs.BookKept.{BookStands}
use Rattle.dnp_store.proofs.Beginning.{inside_not, inside_wrong}
use Rattle.dnp_store.proofs.Numbering.{fresh_book, no_entries}
use Rattle.dnp_store.proofs.Statements.{survives_as}
use Rattle.dnp_store.proofs.book.ControlBook.create.Goals as goal

stood : (g : _) (c : goal.After-new g) → HasCleanDisk (state g.S.Store c.begin_tables.new.conn) → IsTrue c.in-Ok.owned
    → BookStands (state g.S.Store c.begin_tables.new.conn) empty_ledger
stood g c clean own =
    let made = c.in-Ok.ensures.made clean (c.in-Ok.ensures.alone.0 own) in
    record { is_open = made.0; holds = no_entries (state g.S.Store c.begin_tables.new.conn).committed made.1 }

pub invariant_of-result : goal.invariant_of-result
invariant_of-result g c =
    let stands : HasCleanDisk (state g.S.Store c.begin_tables.new.conn) → IsTrue c.in-Ok.owned
    → BookStands (state g.S.Store c.begin_tables.new.conn) empty_ledger = stood g c in search (rules, stands)

pub returns-in-Ok-clause-inside : goal.returns-in-Ok-clause-inside
returns-in-Ok-clause-inside g c inside = inside_not g.S.Store _ c.args.conn c.begin_tables.new.conn _ c.in-Ok.ensures.begins inside

pub returns-in-Err-clause-inside : goal.returns-in-Err-clause-inside
returns-in-Err-clause-inside g c inside = inside_wrong g.S.Store _ c.args.conn c.begin_tables.new.conn c.in-Err.fault c.in-Err.ensures.begins inside

pub returns-in-Ok-clause-held : goal.returns-in-Ok-clause-held
returns-in-Ok-clause-held g c clean = omega (arith, clean, c.in-Ok.ensures.begins.survives.clean)

pub returns-in-Err-clause-same : goal.returns-in-Err-clause-same
returns-in-Err-clause-same g c = c.in-Err.ensures.begins.same

pub returns-in-Err-clause-handed_back : goal.returns-in-Err-clause-handed_back
returns-in-Err-clause-handed_back g c = (c.in-Err.ensures.begins.kept, c.in-Err.ensures.begins.survives.limit)

pub returns-in-Ok-clause-owned : goal.returns-in-Ok-clause-owned
returns-in-Ok-clause-owned g c = c.in-Ok.ensures.alone

pub returns-in-Err-clause-device : goal.returns-in-Err-clause-device
returns-in-Err-clause-device g c clean told = c.in-Err.ensures.device clean (ap Err told)

pub returns-in-Err-clause-taken : goal.returns-in-Err-clause-taken
returns-in-Err-clause-taken g c clean told = c.in-Err.ensures.taken clean (ap Err told)

pub returns-in-Ok-clause-stands : goal.returns-in-Ok-clause-stands
returns-in-Ok-clause-stands g c =
    let stands : HasCleanDisk (state g.S.Store c.begin_tables.new.conn) → IsTrue c.in-Ok.owned
    → BookStands (state g.S.Store c.begin_tables.new.conn) empty_ledger = stood g c in search (rules, stands)

pub returns-in-Ok-clause-made : goal.returns-in-Ok-clause-made
returns-in-Ok-clause-made g c =
    survives_as (state g.S.Store c.args.conn) (state g.S.Store c.begin_tables.new.conn) _ _ (λ db made. ((λ none. fresh_book db (made.0 none)), made.1))
    c.in-Ok.ensures.begins.survives

pub returns-in-Err-clause-left : goal.returns-in-Err-clause-left
returns-in-Err-clause-left g c =
    survives_as (state g.S.Store c.args.conn) (state g.S.Store c.begin_tables.new.conn) _ _ (λ db made. ((λ none. fresh_book db (made.0 none)), made.1))
    c.in-Err.ensures.begins.survives

pub returns-in-Ok-clause-added : goal.returns-in-Ok-clause-added
returns-in-Ok-clause-added g c = c.in-Ok.ensures.added
