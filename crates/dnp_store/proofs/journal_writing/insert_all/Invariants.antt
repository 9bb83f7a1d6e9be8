use Rattle.std.proofs.Common.{◌≡◌, ◌++◌, List}
use Rattle.std.specs.List.{AllByRecursion}
use Rattle.sqlite.specs.State.{HasCleanDisk}
use Rattle.sqlite.specs.Held.{state}
use Rattle.dnp_objects.specs.declared.row.Row.{Row}
use Rattle.dnp_objects.specs.Events.{IsEvent}
use Rattle.dnp_eventbuf.specs.Archive.{Archive, with_events}
use Rattle.dnp_store.specs.JournalTables.{IsJournal}
use Rattle.dnp_store.proofs.Stepping.{AreSteps}
use Rattle.dnp_store.proofs.journal_writing.insert_all.Given as goal

-- some events are in, and the others are still to come
abbrev pub invariant-loop-block : goal.invariant-loop-block
invariant-loop-block g l =
    let old = state g.S.Store l.fn.tx.conn.now in
    let now = state g.S.Store l.tx.conn.now in
    let rest = l.block-iterator.rest.now in
    record {
      done : List Row;
      parts : l.events ≡ done ++ rest;
      events : AllByRecursion IsEvent rest;
      step : AreSteps g.S.Store l.fn.tx.conn l.tx.conn;
      added : HasCleanDisk now → (a : Archive) → IsJournal old.now a → IsJournal now.now (with_events a done);
    }
