use Rattle.std.proofs.Common.{rules}
use Rattle.dnp_nodes.proofs.concentrator_node.ConcentratorNode.is_due_above.Goals as goal

pub returns : goal.returns
returns g c = (c.deadline_above-due.result, c.deadline_above-due.ensures, search rules)
