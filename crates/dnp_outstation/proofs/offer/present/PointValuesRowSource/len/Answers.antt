use Rattle.std.proofs.Common.{sym}
use Rattle.dnp_outstation.proofs.PointValues.{length_rows}
use Rattle.dnp_outstation.proofs.offer.present.PointValuesRowSource.len.Goals as goal

pub returns : goal.returns
returns c = sym (length_rows c.args.self.now.kind c.args.self.now.first c.args.self.now.points.now)
