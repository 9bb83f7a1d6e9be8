use Rattle.std.proofs.Common.{refl}
use Rattle.dnp_outstation.specs.declared.offer.writer.Writer.{Writer}
use Rattle.dnp_outstation.proofs.Fed.{settled}
use Rattle.dnp_outstation.proofs.offer.writer.Writer.settle_rows.Goals as goal

pub returns-clause-written : goal.returns-clause-written
returns-clause-written c =
    let u : Writer = record c.args.self.now { waiting = c.end-given.new.self } in
    settled c.args.self.now u c.put_given.new.self c.end-given.result c.put_given.result c.end-given.ensures.given refl
    c.put_given.ensures.written
