use Rattle.std.proofs.Common.{take}
use Rattle.dnp_world.specs.OneLinkEvents.{RunsTo}
use Rattle.dnp_world.specs.OneLinkParts.{link_of, lanes_of, sink_of}
use Rattle.dnp_world.proofs.one_link.OneLink.run.Given as goal

abbrev pub invariant-loop-done : goal.invariant-loop-done
invariant-loop-done g l = record {
  held : g.L.Lanes.honest (lanes_of l.self) → g.L.Lanes.honest (lanes_of l.fn.self);
  sink_held : g.S.Sink.honest (sink_of l.self) → g.S.Sink.honest (sink_of l.fn.self);
  ran : g.L.Lanes.honest (lanes_of l.self) → g.S.Sink.honest (sink_of l.self)
      → RunsTo g.S.Sink.takes (link_of g.L.Lanes.contents l.fn.self) (take l.done l.events) (link_of g.L.Lanes.contents l.self);
}
