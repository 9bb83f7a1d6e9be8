use Rattle.std.proofs.Common.{◌+◌, ◌≤◌, subst, sym}
use Rattle.std.specs.Prelude.{length, min}
use Rattle.dnp_nodes.specs.ConcentratorNodes.{AreDueFrom, below_in}
use Rattle.dnp_nodes.specs.Turns.{stores}
use Rattle.dnp_nodes.proofs.Deadlines.{due_of_both, due_of_next, due_to}
use Rattle.dnp_nodes.proofs.concentrator_node.places.ConcentratorNodeNode.next_deadline.Goals as goal

pub loop-number-init : goal.loop-number-init
loop-number-init g c =
    let v = stores g.Q.PairLanes.honest g.Q.PairLanes.contents g.B.Book.honest g.B.Book.is_stopped g.B.Book.contents in
    subst (λ moment. AreDueFrom v c.args.self.now 0 moment) (sym c.min-next.ensures)
    (due_of_both v c.args.self.now c.deadline_above.result c.deadline_above-2.result c.deadline_above.ensures c.deadline_above-2.ensures)

pub loop-number-preserved : goal.loop-number-preserved
loop-number-preserved g c =
    let v = stores g.Q.PairLanes.honest g.Q.PairLanes.contents g.B.Book.honest g.B.Book.is_stopped g.B.Book.contents in
    subst (λ moment. AreDueFrom v c.args.self.now (c.loop-number.number + 1) moment) (sym c.min-next-in-loop-number.ensures)
    (due_of_next v c.args.self.now c.loop-number.number c.loop-number.next c.deadline_below.result c.loop-number.invariant c.deadline_below.ensures)

pub returns : goal.returns
returns g c =
    let v = stores g.Q.PairLanes.honest g.Q.PairLanes.contents g.B.Book.honest g.B.Book.is_stopped g.B.Book.contents in
    due_to v c.args.self.now c.loop-number.number (min (length (below_in c.args.self.now)) 255) c.loop-number.next c.loop-number.invariant
    (subst (λ count. count ≤ c.loop-number.number) c.links-number-end.ensures c.loop-number-test.false)
