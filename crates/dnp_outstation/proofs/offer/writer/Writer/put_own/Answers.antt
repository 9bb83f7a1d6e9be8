use Rattle.std.proofs.Common.{rules}
use Rattle.dnp_outstation.proofs.OfferRoom.{put_room}
use Rattle.dnp_outstation.proofs.offer.writer.Writer.put_own.Goals as goal

pub returns-clause-longer : goal.returns-clause-longer
returns-clause-longer c = λ _.
    put_room c.args.self.now c.pass_row.new.self c.args.x.now.header c.args.x.now.lane c.args.x.now.row (search rules)
