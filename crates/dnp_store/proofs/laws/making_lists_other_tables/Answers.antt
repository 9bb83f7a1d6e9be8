use Rattle.dnp_store.proofs.Sparing.{tables_listed, queue_listed, second_listed}
use Rattle.dnp_store.proofs.laws.making_lists_other_tables.Goals as goal

pub returns-clause-tables : goal.returns-clause-tables
returns-clause-tables g c = tables_listed g.S.Store

pub returns-clause-queue : goal.returns-clause-queue
returns-clause-queue g c = queue_listed g.S.Store

pub returns-clause-second : goal.returns-clause-second
returns-clause-second g c = second_listed g.S.Store
