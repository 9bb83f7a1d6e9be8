use Rattle.dnp_outstation.specs.steps.Grouping.{told_in}
use Rattle.dnp_outstation.proofs.Fed.{one_put}
use Rattle.dnp_outstation.proofs.offer.writer.Writer.put_one.Goals as goal

pub returns-clause-written : goal.returns-clause-written
returns-clause-written c =
    one_put c.args.self.now c.put_told.new.self (told_in c.args.a.now) c.put_told.result c.put_told.ensures.fits c.put_told.ensures.room
    c.put_told.ensures.full
