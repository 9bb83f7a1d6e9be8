use Rattle.std.proofs.Common.{rules, refl}
use Rattle.dnp_outstation.specs.declared.offer.grouping.Waiting.TheVariants as waiting
use Rattle.dnp_outstation.specs.declared.offer.writer.Writer.{Writer}
use Rattle.dnp_outstation.proofs.Fed.{row_passes}
use Rattle.dnp_outstation.proofs.offer.writer.Writer.put_later.Goals as goal

pub returns-clause-written : goal.returns-clause-written
returns-clause-written c =
    let u : Writer = record c.args.self.now { waiting = waiting.One c.args.z } in
    row_passes c.args.self.now u c.put_own.new.self c.in-One.x c.args.z c.put_own.result (search rules) refl (search rules)
    c.put_own.ensures.fits c.put_own.ensures.room c.put_own.ensures.full c.put_own.ensures.waiting
