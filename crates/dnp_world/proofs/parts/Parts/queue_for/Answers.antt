-- One side of the queue is read, and both are what they were.
use Rattle.std.proofs.Common.{subst}
use Rattle.std.specs.Prelude.{IfOk}
use Rattle.dnp_concentrator.specs.Concentrator.{book_of, queue_of}
use Rattle.dnp_eventbuf.specs.EventBuffer.{EventBuffer}
use Rattle.dnp_world.specs.ReportShown.{AreById, all_in}
use Rattle.dnp_world.proofs.CentreReads.{queue_read, queue_there, tells_by_queue, well_before_queue}
use Rattle.dnp_world.proofs.SystemPlaces.{viewed}
use Rattle.dnp_world.proofs.parts.Parts.queue_for.Goals as goal

pub returns-clause-held : goal.returns-clause-held
returns-clause-held g c = λ well.
    let middle = c.self.inside.concentrator in
    rw (← c.self.view_is)
    (well_before_queue c.queue-queue.result.now c.queue_rows.new.queue (queue_of middle) (book_of middle) c.self.inside.centres c.queue-queue.ensures.value
    c.queue_rows.ensures.held well)

pub returns-clause-same : goal.returns-clause-same
returns-clause-same g c = λ well.
    rw (← c.self.view_is)
    (queue_read g.Q.PairLanes.contents g.A.Book.contents (viewed c.self.view_is).system c.self.inside.concentrator c.queue-queue.result.now
    c.queue_rows.new.queue c.queue-queue.ensures.value (c.queue_rows.ensures.same well.queues_are))

pub returns-clause-rows : goal.returns-clause-rows
returns-clause-rows g c = λ well.
    rw (← c.self.view_is)
    (subst (λ (s : EventBuffer). IfOk c.queue_rows.result (λ rows. AreById (all_in s) rows.items))
    (queue_there g.Q.PairLanes.contents c.args.centre c.requires c.self.inside.concentrator c.queue-queue.result.now c.queue-queue.ensures.value)
    (c.queue_rows.ensures.rows well.queues_are))

pub returns-clause-device : goal.returns-clause-device
returns-clause-device g c =
    let middle = c.self.inside.concentrator in
    rw (← c.self.view_is)
    (tells_by_queue g.Q.PairLanes.is_stopped g.J.Sink.is_stopped g.A.Book.is_stopped g.B.Book.is_stopped c.queue-queue.result.now
    c.queue_rows.new.queue (queue_of middle) (book_of middle) c.self.inside.centres _ c.queue-queue.ensures.value c.queue_rows.ensures.device)
