use Rattle.std.proofs.Common.{refl, ◌∙◌, ◌++◌, [], ap, map, List}
use Rattle.dnp_outstation.specs.Items.{event_of}
use Rattle.dnp_outstation.specs.Layout.{Laid}
use Rattle.dnp_outstation.specs.steps.Grouping.{mark, laid_from, open_in}
use Rattle.dnp_outstation.proofs.Runs.{event_stops, apart_stops}
use Rattle.dnp_outstation.proofs.offer.writer.Writer.put_first.Goals as goal

pub returns-then-not-is_alone-clause-stop : goal.returns-then-not-is_alone-clause-stop
returns-then-not-is_alone-clause-stop c = λ full.
    event_stops c.args.self.now c.put_event.new.self c.args.header c.args.is_open c.args.lane c.args.x.now c.args.after.now c.put_event.result full
    c.put_event.ensures.written

pub returns-clause-stop : goal.returns-clause-stop
returns-clause-stop c = λ full.
    let after = mark c.args.is_open (map (event_of c.args.header c.args.lane) c.args.after.now) in
    apart_stops c.args.self.now c.put_apart.new.self c.args.header c.args.is_open c.args.lane c.args.x.now c.args.after.now c.put_apart.result full
    (λ more. c.if-takes.ensures.apart refl (after ++ more)
    ∙ ap (λ (l : List Laid). laid_from (open_in c.args.self.now.waiting) [] ++ l) (c.if-not-is_alone.ensures refl c.args.header c.args.lane more))
    c.put_apart.ensures.written c.put_apart.ensures.none
