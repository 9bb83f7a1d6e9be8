use Rattle.std.proofs.Common.{subst}
use Rattle.dnp_concentrator.specs.PerCentre.{at}
use Rattle.dnp_streams.specs.streams.AboveLives.{above_lives}
use Rattle.dnp_nodes.specs.Callees.{IsDue}
use Rattle.dnp_nodes.specs.Turns.{seen_above, stores}
use Rattle.dnp_nodes.proofs.concentrator_node.ConcentratorNode.deadline_above.Goals as goal

pub returns : goal.returns
returns g c =
    let due = c.next_deadline.ensures in
    let v = stores g.Q.PairLanes.honest g.Q.PairLanes.contents g.B.Book.honest g.B.Book.is_stopped g.B.Book.contents in
    subst (λ link. IsDue link (above_lives.deadline (seen_above v c.args.self.now.concentrator c.args.centre)) c.next_deadline.result) c.at.ensures
    (subst (λ timer. IsDue c.at.result.now timer c.next_deadline.result) c.next_deadline_above-timer.ensures
    (record { unconnected = due.unconnected; roomy = due.roomy; full = due.full }))
