-- The front unit is heard, and what it completes is answered.
use Rattle.dnp_outstation.specs.Station.{actions_of}
use Rattle.dnp_world.proofs.OneLinkRuns.{any_err}
use Rattle.dnp_world.proofs.SystemComing.{all_stays, comes_from}
use Rattle.dnp_world.proofs.SystemPlaces.{viewed}
use Rattle.dnp_world.proofs.parts.Parts.come_down_above.Goals as goal

pub returns-in_err-come_down-clause-stopped : goal.returns-in_err-come_down-clause-stopped
returns-in_err-come_down-clause-stopped g c = λ well.
    let old = (viewed c.self.view_is).system in
    let came = c.in_err-come_down.ensures in
    let kept = came.kept (well.queues_are, (well.controls_are.is, well.controls_are.runs)) in
    rw (← c.self.view_is)
    (any_err c.from_residual.result _
    (all_stays g.Q.PairLanes.honest g.Q.PairLanes.contents g.A.Book.contents c.args.centre c.requires old c.self.inside.concentrator c.come_down.new.end
    well.queues_are kept.0 kept.1 kept.2 (came.unchanged (well.queues_are, (well.controls_are.is, well.controls_are.runs)))
    c.self.inside.above c.at_mut-channel.result.now c.come_down.new.self c.at_mut-channel.ensures.value came.lines))

pub returns-clause-done : goal.returns-clause-done
returns-clause-done g c = λ well.
    let old = (viewed c.self.view_is).system in
    rw (← c.self.view_is)
    (comes_from g.Q.PairLanes.honest g.Q.PairLanes.contents g.A.Book.contents c.args.centre c.requires old c.self.inside.concentrator c.come_down.new.end
    well.queues_are (actions_of c.come_down.new.actions) _ c.args.repeats c.self.inside.above c.at_mut-channel.result.now c.come_down.new.self
    c.settle.new.self c.at_mut-channel.ensures.value c.settle.ensures
    (c.in_ok-come_down.ensures.came (well.queues_are, (well.controls_are.is, well.controls_are.runs))))
