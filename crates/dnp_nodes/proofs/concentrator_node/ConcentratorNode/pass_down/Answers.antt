use Rattle.std.proofs.Common.{arith}
use Rattle.dnp_nodes.specs.Turns.{stores}
use Rattle.dnp_nodes.proofs.Told.{told_none, told_one}
use Rattle.dnp_nodes.proofs.Turns.{way_tells_below}
use Rattle.dnp_nodes.proofs.concentrator_node.ConcentratorNode.pass_down.Goals as goal

pub loop-number-init : goal.loop-number-init
loop-number-init g c =
    let v = stores g.Q.PairLanes.honest g.Q.PairLanes.contents g.B.Book.honest g.B.Book.is_stopped g.B.Book.contents in
    told_none v c.args.now c.args.self.now

pub loop-number-preserved : goal.loop-number-preserved
loop-number-preserved g c =
    let v = stores g.Q.PairLanes.honest g.Q.PairLanes.contents g.B.Book.honest g.B.Book.is_stopped g.B.Book.contents in
    told_one v _ _ _ _ _ c.loop-number.invariant (omega (arith, c.loop-number-test.true, c.links-number-end.ensures)) c.tell_below.ensures.call
    (way_tells_below v c.loop-number.number c.args.now c.loop-number.self c.tell_below.new.self c.tell_below.ensures.held c.tell_below.ensures.call)

pub returns-clause-passes : goal.returns-clause-passes
returns-clause-passes g c =
    let all = c.loop-number.invariant in
    record {
      each = λ number few less. all.each number (omega (arith, few, less, c.links-number-end.ensures, c.loop-number-test.false));
      count = all.count;
      above = all.above;
    }

pub returns-clause-way : goal.returns-clause-way
returns-clause-way g c = c.loop-number.invariant.way
