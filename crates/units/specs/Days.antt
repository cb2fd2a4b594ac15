-- Days counted from 1 January 1900, of which paper 1 of document 02 has its weekday, "the weekday of a date (1 Monday to 7 Sunday)", and paper 2 its sixty
-- days; and its twelve months. Assumes nothing.
use Rattle.std.specs.Prelude.{ℕ, zero, suc, ◌+◌, ◌-◌, ◌%◌, Bool, cond, eqb, ltb, Option}
use Rattle.rules.specs.Least.{least_up_to}
use Rattle.units.specs.Calendar.{year, month, day, is_leap, month_days, is_date}

-- the first year and the last date of "years 1900 to 2999"
abbrev pub first_year : ℕ
first_year = 1900

abbrev pub last_date : ℕ
last_date = 29991231

-- the days of a year, of the n years from 1900 on, and of the first n months of a year
abbrev pub year_days : ℕ → ℕ
year_days y = cond (is_leap y) 366 365

unfoldable pub days_of_years : ℕ → ℕ
days_of_years zero = 0
days_of_years (suc n) = days_of_years n + year_days (first_year + n)

unfoldable pub days_of_months : ℕ → ℕ → ℕ
days_of_months y zero = 0
days_of_months y (suc m) = days_of_months y m + month_days y (suc m)

-- how many days a date stands after 19000101
unfoldable pub day_number : ℕ → ℕ
day_number d = days_of_years (year d - first_year) + days_of_months (year d) (month d - 1) + (day d - 1)

-- 19000101 was a Monday
unfoldable pub weekday : ℕ → ℕ
weekday d = day_number d % 7 + 1

-- the date after d
unfoldable pub next_date : ℕ → Option ℕ
next_date d = least_up_to is_date (suc d) last_date

-- paper 2 of document 02: "the same day one year past .. (29 February goes to 28)", as yyyymmdd; past 2998 it is no date
unfoldable pub year_on : ℕ → ℕ
year_on d = cond (eqb (d % 10000) 229) (d + 9999) (d + 10000)

-- d is after that day of the date from
abbrev pub year_past : ℕ → ℕ → Bool
year_past from d = ltb (year_on from) d

-- d is more than so many days past the date from
unfoldable pub days_past : ℕ → ℕ → ℕ → Bool
days_past n from d = ltb (day_number from + n) (day_number d)
