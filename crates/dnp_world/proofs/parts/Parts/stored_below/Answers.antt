-- Each list is read of a system that is what it was.
use Rattle.dnp_world.proofs.Telling.{tells_after, tells_nothing, tells_on}
use Rattle.dnp_world.proofs.parts.Parts.stored_below.Goals as goal

pub returns-clause-journal : goal.returns-clause-journal
returns-clause-journal g c = λ well centre low.
    rw (c.buffered.ensures.same) at (c.in_ok-journal.ensures.rows (c.queues_below.ensures.held well) centre low)

pub returns-clause-queue : goal.returns-clause-queue
returns-clause-queue g c = λ well centre low.
    let first = c.journals_below.ensures.same (c.queues_below.ensures.held well) in
    rw (first, c.buffered.ensures.same) at (c.in_ok-queue.ensures.rows well centre low)

pub returns-in_err-journal-clause-device : goal.returns-in_err-journal-clause-device
returns-in_err-journal-clause-device g c =
    rw (← c.buffered.ensures.same)
    (tells_on _ _ c.journals_below.result c.from_residual-in_err-journal.result c.in_err-journal.field-0.0 c.in_err-journal.was
    c.from_residual-in_err-journal.ensures.1 c.journals_below.ensures.device)

pub returns-in_err-queue-clause-device : goal.returns-in_err-queue-clause-device
returns-in_err-queue-clause-device g c =
    rw (← c.buffered.ensures.same)
    (tells_after _ _ _ c.journals_below.result c.in_ok-journal.journal c.in_ok-journal.was c.journals_below.ensures.device
    (tells_on _ _ c.queues_below.result c.from_residual-in_err-queue.result c.in_err-queue.field-0.0 c.in_err-queue.was
    c.from_residual-in_err-queue.ensures.1 c.queues_below.ensures.device))

pub returns-clause-device : goal.returns-clause-device
returns-clause-device g c =
    rw (← c.buffered.ensures.same)
    (tells_after _ _ _ c.journals_below.result c.in_ok-journal.journal c.in_ok-journal.was c.journals_below.ensures.device
    (tells_nothing _ _ c.queues_below.result c.in_ok-queue.queue c.in_ok-queue.was c.queues_below.ensures.device (λ says. cc)))
