use Rattle.std.proofs.Common.{◌≡◌, Err, IsTrue, length, refl, arith, ap, sym}
use Rattle.sqlite.specs.State.{HasCleanDisk}
use Rattle.sqlite.specs.Held.{state}
use Rattle.dnp_eventbuf.specs.Archive.{Archive}
use Rattle.dnp_store.specs.JournalKept.{JournalStands}
use Rattle.dnp_store.specs.JournalTables.{empty_archive}
use Rattle.dnp_store.proofs.Beginning.{inside_not, inside_wrong}
use Rattle.dnp_store.proofs.JournalStanding.{told_is, told_stands}
use Rattle.dnp_store.proofs.Numbering.{fresh_journal, no_events}
use Rattle.dnp_store.proofs.Statements.{survives_as}
use Rattle.dnp_store.proofs.journal.Journal.create.Goals as goal

stood : (g : _) (c : goal.In-Ok g) → HasCleanDisk (state g.S.Store c.begin_tables.new.conn) → IsTrue c.in-Ok.owned
    → JournalStands (state g.S.Store c.begin_tables.new.conn) empty_archive
stood g c clean own =
    let made = c.in-Ok.ensures.made clean (c.in-Ok.ensures.alone.0 own) in
    record { is_open = made.0; holds = no_events (state g.S.Store c.begin_tables.new.conn).committed made.1 }

pub invariant_of-result : goal.invariant_of-result
invariant_of-result g c = record {
  idle = c.in-Ok.ensures.begins.idle;
  last_in_range = omega arith;
  count_in_range = omega arith;
  stands = λ serves own clean. told_stands (state g.S.Store c.begin_tables.new.conn) empty_archive 0 refl (stood g c clean own);
  count_is = λ serves own clean. sym (ap (λ (a : Archive). length a.rows) (told_is (state g.S.Store c.begin_tables.new.conn) empty_archive 0 refl (stood g c clean own)));
}

pub returns-in-Ok-clause-inside : goal.returns-in-Ok-clause-inside
returns-in-Ok-clause-inside g c inside = inside_not g.S.Store _ c.args.conn c.begin_tables.new.conn _ c.in-Ok.ensures.begins inside

pub returns-in-Err-clause-inside : goal.returns-in-Err-clause-inside
returns-in-Err-clause-inside g c inside = inside_wrong g.S.Store _ c.args.conn c.begin_tables.new.conn c.in-Err.fault c.in-Err.ensures.begins inside

pub returns-in-Ok-clause-held : goal.returns-in-Ok-clause-held
returns-in-Ok-clause-held g c clean = omega (arith, clean, c.in-Ok.ensures.begins.survives.clean)

pub returns-in-Err-clause-same : goal.returns-in-Err-clause-same
returns-in-Err-clause-same g c = c.in-Err.ensures.begins.same

pub returns-in-Err-clause-handed_back : goal.returns-in-Err-clause-handed_back
returns-in-Err-clause-handed_back g c = (c.in-Err.ensures.begins.kept, c.in-Err.ensures.begins.survives.limit)

pub returns-in-Ok-clause-owned : goal.returns-in-Ok-clause-owned
returns-in-Ok-clause-owned g c = c.in-Ok.ensures.alone

pub returns-in-Err-clause-device : goal.returns-in-Err-clause-device
returns-in-Err-clause-device g c clean told = c.in-Err.ensures.device clean (ap Err told)

pub returns-in-Err-clause-taken : goal.returns-in-Err-clause-taken
returns-in-Err-clause-taken g c clean told = c.in-Err.ensures.taken clean (ap Err told)

pub returns-in-Ok-clause-empty : goal.returns-in-Ok-clause-empty
returns-in-Ok-clause-empty g c clean own = told_is (state g.S.Store c.begin_tables.new.conn) empty_archive 0 refl (stood g c clean own)

pub returns-in-Ok-clause-stands : goal.returns-in-Ok-clause-stands
returns-in-Ok-clause-stands g c clean own = told_stands (state g.S.Store c.begin_tables.new.conn) empty_archive 0 refl (stood g c clean own)

pub returns-in-Ok-clause-made : goal.returns-in-Ok-clause-made
returns-in-Ok-clause-made g c =
    survives_as (state g.S.Store c.args.conn) (state g.S.Store c.begin_tables.new.conn) _ _ (λ db made. ((λ none. fresh_journal db (made.0 none)), made.1))
    c.in-Ok.ensures.begins.survives

pub returns-in-Err-clause-left : goal.returns-in-Err-clause-left
returns-in-Err-clause-left g c =
    survives_as (state g.S.Store c.args.conn) (state g.S.Store c.begin_tables.new.conn) _ _ (λ db made. ((λ none. fresh_journal db (made.0 none)), made.1))
    c.in-Err.ensures.begins.survives

pub returns-in-Ok-clause-added : goal.returns-in-Ok-clause-added
returns-in-Ok-clause-added g c = c.in-Ok.ensures.added
