use Rattle.std.proofs.Common.{◌++◌, List, ap, sym, ◌∙◌}
use Rattle.dnp_outstation.specs.Items.{Static}
use Rattle.dnp_outstation.specs.steps.Filling.{fill}
use Rattle.dnp_outstation.specs.steps.Putting.{presents}
use Rattle.dnp_outstation.proofs.OfferPresent.{each_group}
use Rattle.dnp_outstation.proofs.offer.writer.Writer.put_each_group.Goals as goal

pub returns-clause-written : goal.returns-clause-written
returns-clause-written g c = λ s points panel more.
    ap (λ (xs : List Static). fill c.args.self.now (presents c.args.header c.args.given xs ++ more)) (sym (each_group s))
    ∙ c.put_groups.ensures.written s points panel more
