-- Definition: a moment in UTC, as ISO 8601 spells it by the Gregorian calendar.
use Rattle.std.specs.Prelude.{◌≡◌, ℕ, zero, suc, ◌+◌, ◌-◌, ◌/◌, ◌%◌, ◌≤◌, Bool, not, ◌==◌, ◌&&◌, ◌||◌, if◌then◌else◌, List, [], ◌∷◌, ◌++◌, length, take}
use Rattle.std.specs.Fmt.{decimal}
use Rattle.dnp_rows.specs.declared.date.Date.{Date}

-- ---- the calendar

abbrev pub is_leap : ℕ → Bool
is_leap year = (year % 4 == 0) && (not (year % 100 == 0) || (year % 400 == 0))

abbrev pub year_days : Bool → ℕ
year_days leap = if leap then 366 else 365

-- the months are numbered from 1
abbrev pub month_days : Bool → ℕ → ℕ
month_days leap month =
    if month == 2 then (if leap then 29 else 28)
    else (if (month == 4) || (month == 6) || (month == 9) || (month == 11) then 30 else 31)

-- the days of so many years from 1970 on, and of so many months from January on
abbrev pub days_of_years : ℕ → ℕ
days_of_years zero = 0
days_of_years (suc n) = days_of_years n + year_days (is_leap (1970 + n))

abbrev pub days_of_months : Bool → ℕ → ℕ
days_of_months leap zero = 0
days_of_months leap (suc n) = days_of_months leap n + month_days leap (n + 1)

-- the day that comes so many days after 1970-01-01 has this date
pub record FallsOn (days : ℕ) (date : Date) : Type 0 where
  pub from_1970 : 1970 ≤ date.year
  pub month : (1 ≤ date.month) × (date.month ≤ 12)
  pub day : (1 ≤ date.day) × (date.day ≤ month_days (is_leap date.year) date.month)
  pub counted : days + 1 ≡ days_of_years (date.year - 1970) + days_of_months (is_leap date.year) (date.month - 1) + date.day

-- ---- its text

-- a number with zeros in front of it, up to so many digits, 4 at most: 48 is '0'
abbrev pub padded : ℕ → ℕ → List ℕ
padded width n = take (width - length (decimal n)) (48 ∷ 48 ∷ 48 ∷ 48 ∷ []) ++ decimal n

-- as 2026-11-25: 45 is '-'
abbrev pub date_text : Date → List ℕ
date_text date = padded 4 date.year ++ 45 ∷ padded 2 date.month ++ 45 ∷ padded 2 date.day

-- so many milliseconds of the day, as 03:00:01.000: 58 is ':' and 46 is '.'
abbrev pub clock_text : ℕ → List ℕ
clock_text ms =
    padded 2 (ms / 3600000) ++ 58 ∷ padded 2 (ms / 60000 % 60) ++ 58 ∷ padded 2 (ms / 1000 % 60) ++ 46 ∷ padded 3 (ms % 1000)

-- so many milliseconds after 1970-01-01 00:00 UTC, as 2026-11-25T03:00:01.000Z: 84 is 'T' and 90 is 'Z'
pub record IsUtc (time : ℕ) (text : List ℕ) : Type 0 where
  pub date : Date
  pub falls : FallsOn (time / 86400000) date
  pub spelt : text ≡ date_text date ++ 84 ∷ clock_text (time % 86400000) ++ 90 ∷ []
