use Rattle.dnp_store.proofs.Undoing.{book_stays, journal_stays, lanes_stay}
use Rattle.dnp_store.proofs.laws.no_call_undoes_another.Goals as goal

pub returns-clause-lanes : goal.returns-clause-lanes
returns-clause-lanes c = lanes_stay

pub returns-clause-journal : goal.returns-clause-journal
returns-clause-journal c = journal_stays

pub returns-clause-book : goal.returns-clause-book
returns-clause-book c = book_stays
