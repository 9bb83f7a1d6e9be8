use Rattle.std.proofs.Common.{subst}
use Rattle.dnp_nodes.specs.Callers.{IsDue}
use Rattle.dnp_nodes.proofs.centre_node.CentreNodeNode.next_deadline.Goals as goal

pub returns : goal.returns
returns g c =
    let due = c.next_deadline.ensures in
    subst (λ timer. IsDue c.args.self.now.link timer c.next_deadline.result) c.next_deadline-timer.ensures
    (record { unconnected = due.unconnected; roomy = due.roomy; full = due.full })
