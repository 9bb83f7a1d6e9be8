-- Words of private steps: the stores of a system in SQL databases in memory.
use Rattle.std.specs.Prelude.{◌≡◌, ℕ, List}
use Rattle.dnp_controls.specs.Book.{empty_ledger}
use Rattle.dnp_concentrator.specs.declared.cause.Cause.TheVariants as causes
use Rattle.dnp_daemons.specs.declared.run.ScriptStop.{ScriptStop}
use Rattle.dnp_daemons.specs.declared.run.ScriptStop.TheVariants as stop
use Rattle.dnp_daemons.specs.declared.sim.sql.SqlStores.{SqlStores}
use Rattle.dnp_eventbuf.specs.EventBuffer.{empty_buffer}
use Rattle.dnp_store.specs.JournalKept.{held_archive}
use Rattle.dnp_store.specs.JournalTables.{empty_archive}
use Rattle.dnp_store.specs.declared.open.OpenFault.{OpenFault}
use Rattle.dnp_store.specs.declared.open.OpenFault.TheVariants as opening
use Rattle.dnp_store.specs.QueueKept as queue_words
use Rattle.dnp_store.specs.JournalKept as journal_words
use Rattle.dnp_store.specs.BookKept as book_words
use Rattle.sqlite.specs.Steps.{over_memory}

-- they hold nothing, in lanes of these capacities for the first centre and for the second
pub record AreNew (first second : List ℕ) (stores : SqlStores) : Type 0 where
  pub queue : stores.queues.sides.first ≡ empty_buffer first
  pub queue2 : stores.queues.sides.second ≡ empty_buffer second
  pub journal : held_archive over_memory stores.journals.0 ≡ empty_archive
  pub journal2 : held_archive over_memory stores.journals.1 ≡ empty_archive
  pub controls : stores.controls.ledger ≡ empty_ledger
  pub orders : stores.orders.0.ledger ≡ empty_ledger
  pub orders2 : stores.orders.1.ledger ≡ empty_ledger

-- none of them has answered Device
pub record AreWell (stores : SqlStores) : Type 0 where
  pub queues : queue_words.IsHonestQueue over_memory stores.queues
  pub journal : journal_words.IsHonestJournal over_memory stores.journals.0
  pub journal2 : journal_words.IsHonestJournal over_memory stores.journals.1
  pub controls : book_words.IsHonestBook over_memory stores.controls
  pub orders : book_words.IsHonestBook over_memory stores.orders.0
  pub orders2 : book_words.IsHonestBook over_memory stores.orders.1

-- why no system was made, where a store was not: a new database of another form is a device that failed
abbrev pub unmade_for : OpenFault → ScriptStop
unmade_for opening.Memory = stop.Fault causes.Memory
unmade_for opening.Device = stop.Fault causes.Device
unmade_for opening.WrongForm = stop.Fault causes.Device
unmade_for opening.OldForm = stop.Fault causes.Device
