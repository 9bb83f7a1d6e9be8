-- Nothing comes over an empty line.
use Rattle.dnp_world.specs.Centres.{front_on}
use Rattle.dnp_world.proofs.IdleLines.{not_there}
use Rattle.dnp_world.proofs.SystemIdle.{all_idle}
use Rattle.dnp_world.proofs.parts.Parts.come.Goals as goal

pub returns-then-is_none-clause-done : goal.returns-then-is_none-clause-done
returns-then-is_none-clause-done g c = λ well.
    let old = c.args.self.now.system in
    all_idle c.args.repeats c.args.on c.args.way old c.requires
    (not_there c.front.result (front_on old c.args.on c.args.way) c.is_none.result c.front.ensures c.is_none.ensures c.if-is_none.true)

pub returns-in-Below-Up-clause-done : goal.returns-in-Below-Up-clause-done
returns-in-Below-Up-clause-done g c = λ well. rw (c.in-Below-Up.is-0, c.in-Below-Up.is-1) (c.come_up_below.ensures.done well)
