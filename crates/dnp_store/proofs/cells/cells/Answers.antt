use Rattle.dnp_store.proofs.QueueSteps.{timed}
use Rattle.dnp_store.proofs.cells.cells.Goals as goal

pub whole_time-requires : goal.whole_time-requires
whole_time-requires c = let row = c.args.row.now in timed row.kind row.index row.flags row.value row.time c.requires.event
