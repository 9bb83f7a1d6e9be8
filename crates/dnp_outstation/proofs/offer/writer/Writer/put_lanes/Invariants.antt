use Rattle.std.proofs.Common.{◌≡◌, ◌++◌, List, map, fold, drop}
use Rattle.dnp_objects.specs.Lanes.{lane_number}
use Rattle.dnp_outstation.specs.Items.{event_items, given_after}
use Rattle.dnp_outstation.specs.steps.Filling.{after_release, fill, reached}
use Rattle.dnp_outstation.specs.steps.Grouping.{Marked, mark}
use Rattle.dnp_outstation.proofs.offer.writer.Writer.put_lanes.Given as goal

-- what is written and what is left to write are the whole, whatever comes after
abbrev pub invariant-loop-lane : goal.invariant-loop-lane
invariant-loop-lane g l = record {
  given : g.L.Lanes.honest l.lanes →
      fold given_after (reached l.self) (event_items
      (after_release (g.L.Lanes.contents l.fn.lanes) l.bounds.released.now) l.bounds.stood l.bounds.given.now l.header l.left
      (map lane_number (drop l.lane-index l.part.lanes)))
      ≡ fold given_after (reached l.fn.self)
      (event_items (after_release (g.L.Lanes.contents l.fn.lanes) l.bounds.released.now) l.bounds.stood l.bounds.given.now l.header l.part.most
      (map lane_number l.part.lanes));
  written : g.L.Lanes.honest l.lanes → (more : List Marked) →
      fill l.self (mark l.part.is_open (event_items (after_release (g.L.Lanes.contents l.fn.lanes) l.bounds.released.now) l.bounds.stood l.bounds.given.now
      l.header l.left (map lane_number (drop l.lane-index l.part.lanes))) ++ more)
      ≡ fill l.fn.self (mark l.part.is_open (event_items (after_release
      (g.L.Lanes.contents l.fn.lanes) l.bounds.released.now) l.bounds.stood l.bounds.given.now l.header l.part.most (map lane_number l.part.lanes)) ++ more);
  response : l.self.builder.function ≡ l.fn.self.builder.function;
  held : g.L.Lanes.honest l.lanes → g.L.Lanes.honest l.fn.lanes;
  same : g.L.Lanes.honest l.lanes → g.L.Lanes.contents l.lanes ≡ g.L.Lanes.contents l.fn.lanes;
  place : g.L.Lanes.place l.lanes ≡ g.L.Lanes.place l.fn.lanes;
  beside : g.L.Lanes.honest l.lanes → g.L.Lanes.beside l.lanes ≡ g.L.Lanes.beside l.fn.lanes;
  runs_on : g.L.Lanes.is_stopped l.lanes ≡ g.L.Lanes.is_stopped l.fn.lanes;
}
