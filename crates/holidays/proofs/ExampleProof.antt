-- The examples hold, by computation. Assumes nothing.
use mathlib.Core.Path.{refl}
use Rattle.fields.specs.Digits.{digits, number, numeric, is_digit}
use Rattle.fields.specs.Field.{field_of}
use Rattle.rules.specs.Least.{least, least_up_to}
use Rattle.units.specs.Calendar.{is_leap, month_days, is_date}
use Rattle.units.specs.Days.{days_of_years, days_of_months, day_number, weekday}
use Rattle.calendar.specs.BusinessDays.{is_business_day, business_days, is_further, business_day, rise, further_causes, further_day}
use Rattle.holidays.specs.Lines.{date_in, holidays_of}
use Rattle.holidays.specs.DayLine.{refusal_line, day_of}
use Rattle.holidays.specs.Example.{Examples}

pub examples : Examples
unfolding day_of further_day further_causes business_day is_further business_days is_business_day weekday day_number days_of_years days_of_months month_days is_leap is_date least_up_to least holidays_of date_in field_of numeric number is_digit refusal_line digits rise
examples = record { further = refl; over_holiday = refl; over_weekend = refl; start = refl; no_digit = refl; no_date = refl; no_day = refl }
