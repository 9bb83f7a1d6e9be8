-- One event more happened, or the list stops at it; and the law of one link says the rest.
use Rattle.std.proofs.Common.{arith}
use Rattle.dnp_world.specs.OneLinkParts.{link_of}
use Rattle.dnp_world.proofs.OneLinkRuns.{one_done, all_done, stops_after}
use Rattle.dnp_world.proofs.one_link.OneLink.run.Goals as goal

pub loop-done-preserved : goal.loop-done-preserved
loop-done-preserved g c =
    let contents = g.L.Lanes.contents in
    record {
      held = λ honest. c.loop-done.invariant.held (c.happen.ensures.held honest);
      sink_held = λ honest. c.loop-done.invariant.sink_held (c.happen.ensures.sink_held honest);
      ran = λ honest sink.
          one_done g.S.Sink.takes (link_of contents c.args.self.now) (link_of contents c.loop-done.self) (link_of contents c.happen.new.self)
          c.args.events.now c.loop-done.done c.index-events-done.result c.loop-done-test.true c.index-events-done.is
          (c.loop-done.invariant.ran (c.happen.ensures.held honest) (c.happen.ensures.sink_held sink)) (c.in_default.ensures.done honest sink);
    }

pub returns-in-Err-clause-stopped : goal.returns-in-Err-clause-stopped
returns-in-Err-clause-stopped g c = λ honest sink.
    let contents = g.L.Lanes.contents in
    stops_after g.S.Sink.takes g.S.Sink.keeps (link_of contents c.args.self.now) (link_of contents c.loop-done.self) (link_of contents c.happen.new.self)
    c.args.events.now c.loop-done.done c.index-events-done.result c.loop-done-test.true c.index-events-done.is
    (c.loop-done.invariant.ran (c.happen.ensures.held honest) (c.happen.ensures.sink_held sink)) c.in-Err.ensures.named
    (c.in-Err.ensures.stopped honest sink)

pub returns-clause-done : goal.returns-clause-done
returns-clause-done g c = λ honest sink.
    all_done g.S.Sink.takes (link_of g.L.Lanes.contents c.args.self.now) (link_of g.L.Lanes.contents c.loop-done.self) c.args.events.now c.loop-done.done
    (omega (arith, c.loop-done-test.false)) (c.loop-done.invariant.ran honest sink)

pub returns-in-Err-clause-joined : goal.returns-in-Err-clause-joined
returns-in-Err-clause-joined g c = λ honest sink others joined.
    (c.the_law_of_one_link.ensures.stops others (link_of g.L.Lanes.contents c.args.self.now) (link_of g.L.Lanes.contents c.happen.new.self)
    c.args.events.now c.loop-done.done joined (returns-in-Err-clause-stopped g c honest sink)).0

pub returns-in-Err-clause-covered : goal.returns-in-Err-clause-covered
returns-in-Err-clause-covered g c = λ honest sink others joined.
    (c.the_law_of_one_link.ensures.law others (link_of g.L.Lanes.contents c.happen.new.self)
    (returns-in-Err-clause-joined g c honest sink others joined)).covered

pub returns-in-Err-clause-stood : goal.returns-in-Err-clause-stood
returns-in-Err-clause-stood g c = λ honest sink others joined.
    (c.the_law_of_one_link.ensures.law others (link_of g.L.Lanes.contents c.happen.new.self) (returns-in-Err-clause-joined g c honest sink others joined)).stood

pub returns-in-Err-clause-grown_so_far : goal.returns-in-Err-clause-grown_so_far
returns-in-Err-clause-grown_so_far g c = λ honest sink others joined.
    (c.the_law_of_one_link.ensures.stops others (link_of g.L.Lanes.contents c.args.self.now) (link_of g.L.Lanes.contents c.happen.new.self)
    c.args.events.now c.loop-done.done joined (returns-in-Err-clause-stopped g c honest sink)).1

pub returns-clause-joined : goal.returns-clause-joined
returns-clause-joined g c = λ honest sink others joined.
    (c.the_law_of_one_link.ensures.runs others (link_of g.L.Lanes.contents c.args.self.now) (link_of g.L.Lanes.contents c.loop-done.self)
    c.args.events.now joined (returns-clause-done g c honest sink)).0

pub returns-clause-covered : goal.returns-clause-covered
returns-clause-covered g c = λ honest sink others joined.
    (c.the_law_of_one_link.ensures.law others (link_of g.L.Lanes.contents c.loop-done.self) (returns-clause-joined g c honest sink others joined)).covered

pub returns-clause-stood : goal.returns-clause-stood
returns-clause-stood g c = λ honest sink others joined.
    (c.the_law_of_one_link.ensures.law others (link_of g.L.Lanes.contents c.loop-done.self) (returns-clause-joined g c honest sink others joined)).stood

pub returns-clause-grown : goal.returns-clause-grown
returns-clause-grown g c = λ honest sink others joined.
    (c.the_law_of_one_link.ensures.runs others (link_of g.L.Lanes.contents c.args.self.now) (link_of g.L.Lanes.contents c.loop-done.self)
    c.args.events.now joined (returns-clause-done g c honest sink)).1
