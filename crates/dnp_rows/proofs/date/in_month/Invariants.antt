use Rattle.std.proofs.Common.{◌≡◌, ◌≤◌, ◌+◌, ◌-◌}
use Rattle.dnp_rows.specs.Dates.{is_leap, days_of_months}
use Rattle.dnp_rows.proofs.date.in_month.Given as goal

-- the days are those of the months that have passed, and those that are left
abbrev pub invariant-loop-month : goal.invariant-loop-month
invariant-loop-month l = record {
  month : (1 ≤ l.month) × (l.month ≤ 12);
  leap : l.leap ≡ is_leap l.fn.of.year;
  counted : l.fn.of.before ≡ days_of_months l.leap (l.month - 1) + l.before;
}

abbrev pub decreases-loop-month : goal.decreases-loop-month
decreases-loop-month l = l.before
