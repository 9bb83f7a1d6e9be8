use Rattle.dnp_store.proofs.Selecting.{shows_no_entries, shows_no_events, shows_no_number}
use Rattle.dnp_store.proofs.laws.an_empty_database_shows_nothing.Goals as goal

pub returns-clause-form : goal.returns-clause-form
returns-clause-form g c = shows_no_number g.S.Store

pub returns-clause-events : goal.returns-clause-events
returns-clause-events g c = shows_no_events g.S.Store

pub returns-clause-entries : goal.returns-clause-entries
returns-clause-entries g c = shows_no_entries g.S.Store
