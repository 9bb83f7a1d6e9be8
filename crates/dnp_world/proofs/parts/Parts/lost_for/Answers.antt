-- Nothing is written.
use Rattle.std.proofs.Common.{◌-◌, ◌^◌, ap, min, ◌∙◌}
use Rattle.dnp_eventbuf.specs.EventBuffer.{EventBuffer, lost_in}
use Rattle.dnp_world.proofs.CentreReads.{queue_there}
use Rattle.dnp_world.proofs.parts.Parts.lost_for.Goals as goal

pub returns-clause-same : goal.returns-clause-same
returns-clause-same g c =
    rw (← c.self.view_is) (cc (c.queue_lost.ensures.same, c.queue-queue.ensures.value))

pub returns-clause-value : goal.returns-clause-value
returns-clause-value g c = λ well.
    rw (← c.self.view_is)
    (c.queue_lost.ensures.count well.queues_are
    ∙ ap (λ (s : EventBuffer). min (lost_in s) (2 ^ 64 - 1))
    (queue_there g.Q.PairLanes.contents c.args.centre c.requires c.self.inside.concentrator c.queue-queue.result.now c.queue-queue.ensures.value))
