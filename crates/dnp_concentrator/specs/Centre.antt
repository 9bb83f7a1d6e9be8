-- Definition: a centre: the master of its link with the control in progress there, a journal, a book of controls, whose
-- one target is the station below, and the indices of the substations there. What its calls make of link, journal and book.
use Rattle.std.specs.Prelude.{◌≡◌, ◌≢◌, Bool, IsTrue, List, Result, Err, OnErr}
use Rattle.dnp_eventbuf.specs.Archive.{Archive}
use Rattle.dnp_master.specs.declared.fault.MasterFault.{MasterFault}
use Rattle.dnp_master.specs.declared.fault.MasterFault.TheVariants.{Device}
use Rattle.dnp_concentrator.specs.declared.centre.Centre.{Centre}
use Rattle.dnp_concentrator.specs.declared.span.Spans.{Spans}
use Rattle.dnp_concentrator.specs.Relaying.{Relaying}

-- ---- its parts, and what it is once one of them was written

abbrev pub link_of : {J B : Type 0} → Centre J B → Relaying
link_of c = c.relay

-- where the indices of the substations stand above
abbrev pub indices_of : {J B : Type 0} → Centre J B → List Spans
indices_of c = c.map

abbrev pub journal_of : {J B : Type 0} → Centre J B → J
journal_of c = c.journal

abbrev pub book_of : {J B : Type 0} → Centre J B → B
book_of c = c.book

abbrev pub with_journal : {J B : Type 0} → Centre J B → J → Centre J B
with_journal c journal = record c { journal = journal }

abbrev pub with_book : {J B : Type 0} → Centre J B → B → Centre J B
with_book c book = record c { book = book }

-- ---- what a fragment that comes leaves of the journal

-- by the journal before and after it and the call's answer: one append at most
pub record LeavesJournal {J Answer : Type 0} (honest : J → Type 0) (is_stopped : J → Bool) (archive : J → Archive)
    (old new : J) (answer : Result Answer MasterFault) : Type 0 where
  -- an honest journal was honest before
  pub held : honest new → honest old
  -- a refusal changes nothing
  pub unchanged : honest new → OnErr answer (archive new ≡ archive old)
  -- Device stops it, and nothing else does
  pub device_stops : answer ≡ Err Device → IsTrue (is_stopped new)
  pub runs_on : answer ≢ Err Device → is_stopped new ≡ is_stopped old
