use Rattle.std.proofs.Common.{[], ◌∷◌}
use Rattle.dnp_outstation.specs.steps.Grouping.{told_in}
use Rattle.dnp_outstation.proofs.Fed.{then_put, none_more}
use Rattle.dnp_outstation.proofs.offer.writer.Writer.put_two.Goals as goal

pub returns-then-not-put_one-clause-written : goal.returns-then-not-put_one-clause-written
returns-then-not-put_one-clause-written c =
    none_more c.args.self.now c.put_one.new.self (told_in c.args.a.now ∷ []) (told_in c.args.b.now ∷ []) c.if-not-put_one.ensures.written

pub returns-clause-written : goal.returns-clause-written
returns-clause-written c =
    then_put c.args.self.now c.put_one.new.self c.put_one-2.new.self (told_in c.args.a.now ∷ []) (told_in c.args.b.now ∷ []) c.put_one-2.result
    c.if-not-put_one.ensures.written c.put_one-2.ensures.written
