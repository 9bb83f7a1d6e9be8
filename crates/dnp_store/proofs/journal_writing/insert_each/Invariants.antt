use Rattle.std.proofs.Common.{take}
use Rattle.sqlite.specs.State.{HasCleanDisk}
use Rattle.sqlite.specs.Held.{state}
use Rattle.dnp_eventbuf.specs.Archive.{Archive, with_events}
use Rattle.dnp_store.specs.JournalTables.{IsJournal}
use Rattle.dnp_store.proofs.Stepping.{AreSteps}
use Rattle.dnp_store.proofs.journal_writing.insert_each.Given as goal

-- the events so far are in
abbrev pub invariant-loop-row : goal.invariant-loop-row
invariant-loop-row g l =
    let old = state g.S.Store l.fn.tx.conn.now in
    let now = state g.S.Store l.tx.conn.now in
    record {
      step : AreSteps g.S.Store l.fn.tx.conn l.tx.conn;
      added : HasCleanDisk now → (a : Archive) → IsJournal old.now a → IsJournal now.now (with_events a (take l.row-index l.events));
    }
