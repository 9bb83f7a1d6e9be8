use Rattle.std.proofs.Common.{◌≡◌, ◌++◌, ◌+◌, ℕ, Bool, List, map, length}
use Rattle.dnp_outstation.specs.Items.{Source, part_of, parts_left, items_of}
use Rattle.dnp_outstation.specs.steps.Filling.{after_release, fill, reached}
use Rattle.dnp_outstation.specs.steps.Grouping.{Marked, opened}
use Rattle.dnp_outstation.specs.steps.Putting.{LeavesOpen}
use Rattle.dnp_outstation.proofs.offer.writer.Writer.put_headers.Given as goal

-- what is written and what is left to write are the whole, whatever comes after
abbrev pub invariant-loop-header : goal.invariant-loop-header
invariant-loop-header g l = record {
  few : l.at + length l.header-iterator.headers ≡ l.first + length l.initial.header-iterator.headers;
  written : g.L.Lanes.honest l.lanes → (s : Source) → s.points ≡ l.from.points.now → s.panel ≡ g.O.Outputs.panel l.from.outputs.now
      → s.lanes ≡ after_release (g.L.Lanes.contents l.fn.lanes) l.from.released.now → (may : ℕ → Bool)
      → LeavesOpen may l.first l.initial.header-iterator.headers
      → LeavesOpen may l.at l.header-iterator.headers × ((more : List Marked)
      → fill l.self (map (opened may) (items_of s l.from.stood (reached l.self) l.at (parts_left l.count (map (part_of s) l.header-iterator.headers))) ++ more)
      ≡ fill l.fn.self (map (opened may) (items_of s l.from.stood (reached l.fn.self) l.first
      (parts_left l.given (map (part_of s) l.initial.header-iterator.headers))) ++ more));
  response : l.self.builder.function ≡ l.fn.self.builder.function;
  held : g.L.Lanes.honest l.lanes → g.L.Lanes.honest l.fn.lanes;
  same : g.L.Lanes.honest l.lanes → g.L.Lanes.contents l.lanes ≡ g.L.Lanes.contents l.fn.lanes;
  place : g.L.Lanes.place l.lanes ≡ g.L.Lanes.place l.fn.lanes;
  beside : g.L.Lanes.honest l.lanes → g.L.Lanes.beside l.lanes ≡ g.L.Lanes.beside l.fn.lanes;
  runs_on : g.L.Lanes.is_stopped l.lanes ≡ g.L.Lanes.is_stopped l.fn.lanes;
}
