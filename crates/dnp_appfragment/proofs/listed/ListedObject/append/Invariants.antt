use Rattle.std.proofs.Common.{◌≡◌, take, drop, ◌++◌, ◌-◌}
use Rattle.dnp_appfragment.specs.steps.Listed.{all_after}
use Rattle.dnp_appfragment.proofs.listed.ListedObject.append.Given as goal

-- what is written and what is left to write are the whole
abbrev pub invariant-loop-place : goal.invariant-loop-place
invariant-loop-place g l = record {
  written : l.octets.items ++ all_after (g.O.RowObject.spelled l.self.object.now) (take (l.self.count - l.place) (drop l.place (g.R.RowSource.rows l.self.rows.now)))
      ≡ l.fn.octets.items ++ all_after (g.O.RowObject.spelled l.self.object.now) (take l.self.count (g.R.RowSource.rows l.self.rows.now));
}
