-- What the concentrator's call promises, as the master's end of a link promises it.
use Rattle.dnp_concentrator.specs.Concentrator.{taking_at}
use Rattle.dnp_world.proofs.EndTakes.{concentrator_takes}
use Rattle.dnp_world.proofs.ends.ConcentratorMasterEnd.take_in.Goals as goal

pub returns-clause-takes : goal.returns-clause-takes
returns-clause-takes g c =
    let old = c.args.self.now in
    let call = c.receive_below.ensures in
    concentrator_takes g.Q.PairLanes.honest g.Q.PairLanes.is_stopped g.Q.PairLanes.contents g.B.Book.honest g.B.Book.is_stopped g.B.Book.contents old
    c.receive_below.new.self c.args.link (taking_at old c.args.link c.args.now c.args.octets.now) c.receive_below.result _ call.refused call.named
    call.links_unchanged call.unchanged call.link call.actions call.queued call.dropped call.dropped_too call.readings call.plan call.outputs call.queue
    call.not_exhausted
