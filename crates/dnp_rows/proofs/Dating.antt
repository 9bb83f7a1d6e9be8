-- The days of years and months, one more of each.
use Rattle.std.proofs.Common.{◌≡◌, ℕ, suc, ◌+◌, ◌-◌, ◌<◌, ◌≤◌, Bool, true, false, ap, ◌∙◌, arith}
use Rattle.dnp_rows.specs.Dates.{is_leap, year_days, month_days, days_of_years, days_of_months}

pub one_year : (year : ℕ) → 1970 ≤ year → days_of_years (year + 1 - 1970) ≡ days_of_years (year - 1970) + year_days (is_leap year)
one_year year from =
    let next : year + 1 - 1970 ≡ suc (year - 1970) = omega arith in
    let same : 1970 + (year - 1970) ≡ year = omega arith in
    ap days_of_years next ∙ ap (λ (y : ℕ). days_of_years (year - 1970) + year_days (is_leap y)) same

pub one_month : (leap : Bool) (month : ℕ) → 1 ≤ month → days_of_months leap (month + 1 - 1) ≡ days_of_months leap (month - 1) + month_days leap month
one_month leap month from =
    let next : month + 1 - 1 ≡ suc (month - 1) = omega arith in
    let same : month - 1 + 1 ≡ month = omega arith in
    ap (days_of_months leap) next ∙ ap (λ (m : ℕ). days_of_months leap (month - 1) + month_days leap m) same

-- what is left of a year after eleven months is at most the last one
pub december : (leap : Bool) (month before : ℕ) → month ≡ 12 → days_of_months leap (month - 1) + before < year_days leap → before < month_days leap month
december true month before is h =
    let left : days_of_months true 11 + before < 366 = rw (ap (λ (m : ℕ). m - 1) is) at h in
    rw is (omega (arith, left))
december false month before is h =
    let left : days_of_months false 11 + before < 365 = rw (ap (λ (m : ℕ). m - 1) is) at h in
    rw is (omega (arith, left))
