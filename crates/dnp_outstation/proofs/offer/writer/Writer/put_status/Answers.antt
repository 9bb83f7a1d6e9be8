use Rattle.std.proofs.Common.{◌≡◌, false, if◌then◌else◌, [], ap, sym, ◌∙◌, Bool}
use Rattle.dnp_outstation.specs.declared.offer.grouping.Waiting.{Waiting}
use Rattle.dnp_outstation.specs.declared.offer.grouping.Waiting.TheVariants as waiting
use Rattle.dnp_outstation.specs.Items.{Static, present_of}
use Rattle.dnp_outstation.specs.Layout.{lay}
use Rattle.dnp_outstation.specs.steps.Filling.{fill_laid, fill, ended}
use Rattle.dnp_outstation.specs.steps.Grouping.{laid_from, open_in}
use Rattle.dnp_outstation.specs.steps.Grouping.Open.{Shut}
use Rattle.dnp_outstation.proofs.Fed.{one_put, presents_put, presents_full}
use Rattle.dnp_outstation.proofs.offer.writer.Writer.put_status.Goals as goal

pub returns-then-settle-clause-written : goal.returns-then-settle-clause-written
returns-then-settle-clause-written c = λ more.
    let x : Static = record { object = (10, 2); block = 0; row = c.args.row.now } in
    let v = c.settle.new.self in
    let w = c.put_present.new.self in
    let fit = c.put_present.result in
    let waits : w.waiting ≡ waiting.Nothing = c.put_present.ensures.waiting ∙ c.if-settle.ensures.none in
    presents_put c.args.self.now v c.args.header x [] more c.if-settle.ensures.written
    ∙ one_put v w (lay (present_of c.args.header x)) fit c.put_present.ensures.fits c.put_present.ensures.room c.put_present.ensures.full (laid_from Shut more)
    ∙ ap (λ (u : Waiting). if fit then fill_laid w (laid_from (open_in u) more) else ended false w) (sym waits)

pub returns-else-settle-clause-written : goal.returns-else-settle-clause-written
returns-else-settle-clause-written c = λ more.
    let x : Static = record { object = (10, 2); block = 0; row = c.args.row.now } in
    let v = c.settle.new.self in
    presents_full c.args.self.now v c.args.header x [] more c.if-settle.ensures.written
    ∙ ap (λ (b : Bool). if b then fill v more else ended false v) (sym c.if-settle.false)
