use Rattle.dnp_store.proofs.Sparing.{tables_kept, queue_kept, second_kept}
use Rattle.dnp_store.proofs.laws.making_keeps_other_tables.Goals as goal

pub returns-clause-tables : goal.returns-clause-tables
returns-clause-tables g c = tables_kept g.S.Store

pub returns-clause-queue : goal.returns-clause-queue
returns-clause-queue g c = queue_kept g.S.Store

pub returns-clause-second : goal.returns-clause-second
returns-clause-second g c = second_kept g.S.Store
