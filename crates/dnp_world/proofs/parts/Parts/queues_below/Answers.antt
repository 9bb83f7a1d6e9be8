-- For each centre: the second side is read of a system that is what it was.
use Rattle.dnp_world.proofs.PerCentre.{at_every}
use Rattle.dnp_world.proofs.Telling.{tells_after, tells_nothing, tells_on}
use Rattle.dnp_world.proofs.parts.Parts.queues_below.Goals as goal

pub returns-clause-rows : goal.returns-clause-rows
returns-clause-rows g c = λ well.
    let before = c.queue_below-2.ensures.held well in
    rw (c.new.ensures, c.new-2.ensures)
    (at_every _ (c.in_ok-first.ensures.rows before) (rw (c.queue_below.ensures.same before) at (c.in_ok-second.ensures.rows well)))

pub returns-in_err-first-clause-device : goal.returns-in_err-first-clause-device
returns-in_err-first-clause-device g c =
    tells_on _ _ c.queue_below.result c.from_residual.result c.in_err-first.field-0.0 c.in_err-first.was c.from_residual.ensures.1 c.queue_below.ensures.device

pub returns-in_err-second-clause-device : goal.returns-in_err-second-clause-device
returns-in_err-second-clause-device g c =
    tells_after _ _ _ c.queue_below.result c.in_ok-first.first c.in_ok-first.was c.queue_below.ensures.device
    (tells_on _ _ c.queue_below-2.result c.from_residual-in_err-second.result c.in_err-second.field-0.0 c.in_err-second.was c.from_residual-in_err-second.ensures.1
    c.queue_below-2.ensures.device)

pub returns-clause-device : goal.returns-clause-device
returns-clause-device g c =
    tells_after _ _ _ c.queue_below.result c.in_ok-first.first c.in_ok-first.was c.queue_below.ensures.device
    (tells_nothing _ _ c.queue_below-2.result c.in_ok-second.second c.in_ok-second.was c.queue_below-2.ensures.device (λ says. cc))
