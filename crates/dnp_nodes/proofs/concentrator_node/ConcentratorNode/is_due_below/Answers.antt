use Rattle.std.proofs.Common.{rules}
use Rattle.dnp_nodes.proofs.concentrator_node.ConcentratorNode.is_due_below.Goals as goal

pub returns : goal.returns
returns g c = (c.deadline_below-due.result, c.deadline_below-due.ensures, search rules)
