-- What the outstation or the master refuses asks nothing of the sink.
use Rattle.std.proofs.lemmas.Result.{on_err_weaker}
use Rattle.dnp_world.specs.OneLinkParts.{link_of}
use Rattle.dnp_world.proofs.OneLinkRuns.{stopped_at}
use Rattle.dnp_world.proofs.one_link.OneLink.happen.Goals as goal

pub returns-in-Open-clause-stopped : goal.returns-in-Open-clause-stopped
returns-in-Open-clause-stopped g c = λ honest sink. on_err_weaker c.open.result
    (stopped_at g.S.Sink.takes g.S.Sink.keeps g.met.S.Sink.keeps_itself (link_of g.L.Lanes.contents c.args.self.now)
    (link_of g.L.Lanes.contents c.open.new.self) c.args.event.now _ c.in-Open.is) (c.open.ensures.stopped honest)

pub returns-in-Change-clause-stopped : goal.returns-in-Change-clause-stopped
returns-in-Change-clause-stopped g c = λ honest sink. on_err_weaker c.change.result
    (stopped_at g.S.Sink.takes g.S.Sink.keeps g.met.S.Sink.keeps_itself (link_of g.L.Lanes.contents c.args.self.now)
    (link_of g.L.Lanes.contents c.change.new.self) c.args.event.now _ c.in-Change.is) (c.change.ensures.stopped honest)

pub returns-in-Ask-clause-stopped : goal.returns-in-Ask-clause-stopped
returns-in-Ask-clause-stopped g c = λ honest sink. on_err_weaker c.ask.result
    (stopped_at g.S.Sink.takes g.S.Sink.keeps g.met.S.Sink.keeps_itself (link_of g.L.Lanes.contents c.args.self.now)
    (link_of g.L.Lanes.contents c.ask.new.self) c.args.event.now _ c.in-Ask.is) c.ask.ensures.stopped

pub returns-in-Tick-Outstation-clause-stopped : goal.returns-in-Tick-Outstation-clause-stopped
returns-in-Tick-Outstation-clause-stopped g c = λ honest sink. on_err_weaker c.tick_outstation.result
    (stopped_at g.S.Sink.takes g.S.Sink.keeps g.met.S.Sink.keeps_itself (link_of g.L.Lanes.contents c.args.self.now)
    (link_of g.L.Lanes.contents c.tick_outstation.new.self) c.args.event.now _ c.in-Tick-Outstation.is) (c.tick_outstation.ensures.stopped honest)

pub returns-in-Restart-Outstation-clause-stopped : goal.returns-in-Restart-Outstation-clause-stopped
returns-in-Restart-Outstation-clause-stopped g c = λ honest sink. on_err_weaker c.restart_outstation.result
    (stopped_at g.S.Sink.takes g.S.Sink.keeps g.met.S.Sink.keeps_itself (link_of g.L.Lanes.contents c.args.self.now)
    (link_of g.L.Lanes.contents c.restart_outstation.new.self) c.args.event.now _ c.in-Restart-Outstation.is) (c.restart_outstation.ensures.stopped honest)
