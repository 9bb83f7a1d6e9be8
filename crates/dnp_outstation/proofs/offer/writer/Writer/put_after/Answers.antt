use Rattle.std.proofs.Common.{false, refl, sym, ap, ◌∙◌}
use Rattle.dnp_outstation.specs.steps.Filling.{ended}
use Rattle.dnp_outstation.proofs.GroupTimes.{after_put, after_fits, no_room, none_put, grows_by, short_by}
use Rattle.dnp_outstation.proofs.offer.writer.Writer.put_after.Goals as goal

pub returns-then-not-put_time-clause-room : goal.returns-then-not-put_time-clause-room
returns-then-not-put_time-clause-room c = no_room c.args.self.now c.args.common c.args.x.now c.if-not-put_time.ensures.room

pub returns-clause-fits : goal.returns-clause-fits
returns-clause-fits c = λ fit.
    after_put c.args.self.now c.put_time.new.self c.put_relative.new.self c.args.common c.args.x.now
    (c.if-not-put_time.ensures.put refl) (c.put_relative.ensures.put fit)

pub returns-clause-room : goal.returns-clause-room
returns-clause-room c =
    after_fits c.args.self.now c.put_time.new.self c.args.common c.args.x.now c.put_relative.result
    (c.if-not-put_time.ensures.put refl) c.put_relative.ensures.room

pub returns-clause-longer : goal.returns-clause-longer
returns-clause-longer c = λ fit.
    grows_by c.args.self.now c.put_time.new.self c.put_relative.new.self c.args.common c.args.x.now c.requires.tells
    (c.if-not-put_time.ensures.put refl) (c.put_relative.ensures.put fit)

pub returns-clause-short : goal.returns-clause-short
returns-clause-short c = λ fit.
    short_by c.put_time.new.self c.put_relative.new.self c.args.common c.args.x.now (c.put_relative.ensures.put fit)
    (sym fit ∙ c.put_relative.ensures.room)

pub returns-clause-full : goal.returns-clause-full
returns-clause-full c = λ no.
    ap (ended false) (none_put c.args.self.now c.put_time.new.self c.put_relative.new.self c.args.common c.args.x.now
    (c.if-not-put_time.ensures.put refl) c.if-not-put_time.ensures.room (sym no ∙ c.put_relative.ensures.room) (c.put_relative.ensures.none no))
