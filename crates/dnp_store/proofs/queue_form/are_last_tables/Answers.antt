use Rattle.std.proofs.Common.{refl}
use Rattle.dnp_store.specs.Tables.{no_table}
use Rattle.dnp_store.proofs.PairOpening.{two_more}
use Rattle.dnp_store.proofs.queue_form.are_last_tables.Goals as goal

pub returns-then-is_queue-clause-form : goal.returns-then-is_queue-clause-form
returns-then-is_queue-clause-form c is =
    two_more c.args.tables.now no_table c.index-tables-4.result c.index-tables-5.result c.requires c.index-tables-4.is c.index-tables-5.is
    (c.if-is_queue.ensures.form refl) (c.is_lanes.ensures.form is)
