-- Business days by computation. Assumes nothing.
use mathlib.Core.Path.{refl}
use Rattle.rules.specs.Least.{least, least_up_to}
use Rattle.units.specs.Calendar.{is_leap, month_days, is_date}
use Rattle.units.specs.Days.{days_of_years, days_of_months, day_number, weekday}
use Rattle.calendar.specs.BusinessDays.{is_business_day, next_business_day, business_days, is_further, business_day, rise, next_causes, further_causes, weekday_of, next_day, further_day}
use Rattle.calendar.specs.Example.{ExampleDays}

pub example-days : ExampleDays
unfolding least least_up_to is_leap month_days is_date days_of_years days_of_months day_number weekday is_business_day next_business_day business_days is_further business_day rise next_causes further_causes weekday_of next_day further_day
example-days =
    record {
      monday = refl;
      three_on = refl;
      over_a_holiday = refl;
      over_a_weekend = refl;
      over_a_month_end = refl;
      itself = refl;
      last = refl;
      to_the_last = refl;
      past_the_last = refl;
      none_after_the_last = refl;
      equal_holidays = refl;
      ten_on = refl;
      no_date = refl;
    }
