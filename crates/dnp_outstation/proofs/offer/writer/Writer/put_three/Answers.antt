use Rattle.std.proofs.Common.{[], ◌∷◌}
use Rattle.dnp_outstation.specs.steps.Grouping.{told_in}
use Rattle.dnp_outstation.proofs.Fed.{then_put, none_more}
use Rattle.dnp_outstation.proofs.offer.writer.Writer.put_three.Goals as goal

pub returns-then-not-put_two-clause-written : goal.returns-then-not-put_two-clause-written
returns-then-not-put_two-clause-written c =
    none_more c.args.self.now c.put_two.new.self (told_in c.args.a.now ∷ told_in c.args.b.now ∷ []) (told_in c.args.c.now ∷ [])
    c.if-not-put_two.ensures.written

pub returns-clause-written : goal.returns-clause-written
returns-clause-written c =
    then_put c.args.self.now c.put_two.new.self c.put_one.new.self (told_in c.args.a.now ∷ told_in c.args.b.now ∷ []) (told_in c.args.c.now ∷ [])
    c.put_one.result c.if-not-put_two.ensures.written c.put_one.ensures.written
