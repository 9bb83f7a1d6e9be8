use Rattle.std.proofs.Common.{◌≡◌, take, drop, ◌++◌, ◌-◌}
use Rattle.dnp_appfragment.specs.steps.Spans.{all_written}
use Rattle.dnp_appfragment.proofs.points.PointsObject.append.Given as goal

-- what is written and what is left to write are the whole
abbrev pub invariant-loop-place : goal.invariant-loop-place
invariant-loop-place g l = record {
  written : l.octets.items ++ all_written g.row.GROUP g.row.VARIATION (take (l.self.count - l.place) (drop l.place (g.R.RowSource.rows l.self.rows.now)))
      ≡ l.fn.octets.items ++ all_written g.row.GROUP g.row.VARIATION (take l.self.count (g.R.RowSource.rows l.self.rows.now));
}
