use Rattle.std.proofs.Common.{false, ap}
use Rattle.dnp_line.specs.Ports.{new_port}
use Rattle.dnp_streams.specs.links.Links.{new_link}
use Rattle.dnp_nodes.proofs.Outstations.{calls_from}
use Rattle.dnp_nodes.specs.declared.callee.CalleePlan.{CalleePlan}
use Rattle.dnp_nodes.proofs.outstation_node.OutstationNodeNode.connected.Goals as goal

pub returns-clause-opened : goal.returns-clause-opened
returns-clause-opened g c =
    let ended = c.closed.ensures in
    let began = c.connected.ensures in
    let (reply, calls) = began.opened in (
      reply,
      calls_from _ _ _ _ _ _ _ _ _ _ _ _ _ _ (ap (λ (plan : CalleePlan). new_link (new_port plan.ends.own plan.ends.peer false)) ended.plan)
          (λ honest. ended.hung_up (began.held honest)) ended.operated calls,
    )
