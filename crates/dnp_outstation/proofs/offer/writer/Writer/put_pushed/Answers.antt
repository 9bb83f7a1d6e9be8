use Rattle.std.proofs.Common.{refl}
use Rattle.dnp_outstation.specs.declared.offer.writer.Writer.{Writer}
use Rattle.dnp_outstation.specs.steps.Grouping.{marked_in}
use Rattle.dnp_outstation.proofs.Fed.{event_put}
use Rattle.dnp_outstation.proofs.offer.writer.Writer.put_pushed.Goals as goal

pub returns-clause-written : goal.returns-clause-written
returns-clause-written c =
    let u : Writer = record c.args.self.now { waiting = c.push-given.new.self } in
    event_put c.args.self.now u c.put_given.new.self
    (marked_in c.args.z) c.push-given.result c.put_given.result c.push-given.ensures.given refl
    c.put_given.ensures.written c.put_given.ensures.waiting
