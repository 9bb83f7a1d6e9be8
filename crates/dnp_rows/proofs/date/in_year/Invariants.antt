use Rattle.std.proofs.Common.{◌≡◌, ◌≤◌, ◌+◌, ◌-◌}
use Rattle.dnp_rows.specs.Dates.{days_of_years}
use Rattle.dnp_rows.proofs.date.in_year.Given as goal

-- the days are those of the years that have passed, and those that are left
abbrev pub invariant-loop-before : goal.invariant-loop-before
invariant-loop-before l = record {
  from_1970 : 1970 ≤ l.year;
  counted : l.fn.days ≡ days_of_years (l.year - 1970) + l.before;
  few : l.year + l.before ≤ 1970 + l.fn.days;
}

abbrev pub decreases-loop-before : goal.decreases-loop-before
decreases-loop-before l = l.before
