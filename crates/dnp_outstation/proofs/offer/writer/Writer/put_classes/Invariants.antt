use Rattle.std.proofs.Common.{◌≡◌, true, ◌++◌, List, drop}
use Rattle.dnp_outstation.specs.Items.{enabled_lanes, lane_items}
use Rattle.dnp_outstation.specs.steps.Filling.{after_release, fill}
use Rattle.dnp_outstation.specs.steps.Grouping.{Marked, mark}
use Rattle.dnp_outstation.proofs.offer.writer.Writer.put_classes.Given as goal

-- what is written and what is left to write are the whole, whatever comes after
abbrev pub invariant-loop-class : goal.invariant-loop-class
invariant-loop-class g l = record {
  written : g.L.Lanes.honest l.lanes → (more : List Marked) →
      fill l.self (mark true (lane_items (after_release (g.L.Lanes.contents l.fn.lanes) l.released) (enabled_lanes l.class (drop l.class l.enabled))) ++ more)
      ≡ fill l.fn.self (mark true (lane_items (after_release (g.L.Lanes.contents l.fn.lanes) l.released) (enabled_lanes 0 l.enabled)) ++ more);
  response : l.self.builder.function ≡ l.fn.self.builder.function;
  held : g.L.Lanes.honest l.lanes → g.L.Lanes.honest l.fn.lanes;
  same : g.L.Lanes.honest l.lanes → g.L.Lanes.contents l.lanes ≡ g.L.Lanes.contents l.fn.lanes;
  place : g.L.Lanes.place l.lanes ≡ g.L.Lanes.place l.fn.lanes;
  beside : g.L.Lanes.honest l.lanes → g.L.Lanes.beside l.lanes ≡ g.L.Lanes.beside l.fn.lanes;
  runs_on : g.L.Lanes.is_stopped l.lanes ≡ g.L.Lanes.is_stopped l.fn.lanes;
}
