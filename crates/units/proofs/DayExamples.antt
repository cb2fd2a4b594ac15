-- Days by computation. Assumes nothing.
use mathlib.Core.Path.{◌≡◌, refl}
use Rattle.rules.specs.Least.{least, least_up_to}
use Rattle.units.specs.Calendar.{is_leap, month_days, is_date}
use Rattle.units.specs.Days.{days_of_years, days_of_months, day_number, weekday, next_date}
use Rattle.std.specs.Prelude.{Some, None}

-- ---- weekdays
first-day : weekday 19000101 ≡ 1
unfolding weekday day_number days_of_years days_of_months month_days is_leap
first-day = refl

monday : weekday 20171113 ≡ 1
unfolding weekday day_number days_of_years days_of_months month_days is_leap
monday = refl

leap-day : weekday 20000229 ≡ 2
unfolding weekday day_number days_of_years days_of_months month_days is_leap
leap-day = refl

last-day : weekday 29991231 ≡ 2
unfolding weekday day_number days_of_years days_of_months month_days is_leap
last-day = refl

-- ---- the date after
month-end : next_date 20171130 ≡ Some 20171201
unfolding next_date least_up_to least is_date month_days is_leap
month-end = refl

year-end : next_date 19991231 ≡ Some 20000101
unfolding next_date least_up_to least is_date month_days is_leap
year-end = refl

to-leap-day : next_date 20000228 ≡ Some 20000229
unfolding next_date least_up_to least is_date month_days is_leap
to-leap-day = refl

none_after : next_date 29991231 ≡ None
unfolding next_date least_up_to least is_date month_days is_leap
none_after = refl
