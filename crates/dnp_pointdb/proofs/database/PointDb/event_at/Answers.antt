use Rattle.std.proofs.Common.{sym, Ok}
use Rattle.dnp_pointdb.proofs.Carried.{answer_in_carried}
use Rattle.dnp_pointdb.proofs.database.PointDb.event_at.Goals as goal

pub returns-clause-carried : goal.returns-clause-carried
returns-clause-carried c =
    answer_in_carried (Ok c.event_at.result) c.bank.result.now c.args.kind c.args.index c.args.reading (sym c.event_at.ensures)
