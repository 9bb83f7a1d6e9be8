-- What comes to the receiver comes up the link.
use Rattle.dnp_line.specs.Lines.{front_of}
use Rattle.dnp_world.specs.Channels.{left_by, state_of}
use Rattle.dnp_world.specs.OneLinkParts.{link_of}
use Rattle.dnp_world.proofs.IdleLines.{not_there}
use Rattle.dnp_world.proofs.OneLinkArrivals.{comes_up, on_err, stops_up}
use Rattle.dnp_world.proofs.OneLinkIdle.{idle_up}
use Rattle.dnp_world.proofs.SystemTasks.{on_ok}
use Rattle.dnp_world.proofs.one_link.OneLink.come_up.Goals as goal

-- nothing comes over an empty line
pub returns-then-is_none-clause-done : goal.returns-then-is_none-clause-done
returns-then-is_none-clause-done g c = λ honest.
    let old = link_of g.L.Lanes.contents c.args.self.now in
    idle_up g.S.Sink.takes c.args.repeats old
    (not_there c.front.result (front_of old.channel.up) c.is_none.result c.front.ensures c.is_none.ensures c.if-is_none.true)

pub returns-clause-done : goal.returns-clause-done
returns-clause-done g c = λ honest.
    let self = c.args.self.now in
    on_ok c.come_up.result _ _
    (comes_up g.S.Sink.takes (link_of g.L.Lanes.contents self) self.receiver c.come_up.new.end (state_of self.channel) (state_of c.come_up.new.self) _ _
    (left_by c.args.repeats))
    (c.come_up.ensures.came honest)

pub returns-clause-stopped : goal.returns-clause-stopped
returns-clause-stopped g c = λ honest.
    let self = c.args.self.now in
    on_err c.come_up.result _ _ _
    (stops_up g.S.Sink.keeps (link_of g.L.Lanes.contents self) self.receiver c.come_up.new.end (state_of self.channel) (state_of c.come_up.new.self))
    (c.come_up.ensures.kept honest) c.come_up.ensures.lines
