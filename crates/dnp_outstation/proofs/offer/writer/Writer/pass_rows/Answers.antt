use Rattle.std.proofs.Common.{arith}
use Rattle.dnp_outstation.proofs.ListedRuns.{passed_is}
use Rattle.dnp_outstation.proofs.offer.writer.Writer.pass_rows.Goals as goal

pub returns : goal.returns
returns c = passed_is c.args.self.now c.args.lane c.args.rows.now c.in-Some.last.now c.saturating_add-self.result c.in-Some.ensures.value (omega arith)
