-- Business days as examples. Document 002 has the Scheduled Date on "the following third business day": in document 01's example 20171116 for 20171113.
-- Assumes nothing.
use Rattle.std.specs.Prelude.{◌≡◌, [], ◌∷◌, Ok, Err}
use Rattle.units.specs.Calendar.{date_of}
use Rattle.calendar.specs.BusinessDays.{weekday_of, next_day, further_day}
use Rattle.rules.specs.declared.Cause.TheVariants.{BadArgument, BadHolidays, NoSuchDay}

pub record ExampleDays : Type 0 where
  -- "1 Monday to 7 Sunday"
  pub monday : weekday_of 20171113 ≡ Ok 1
  -- from Monday 13 November 2017 on; with a holiday between; over a weekend; over the end of a month
  pub three_on : further_day [] 20171113 3 ≡ Ok (date_of 20171116)
  pub over_a_holiday : further_day (20171114 ∷ []) 20171113 3 ≡ Ok (date_of 20171117)
  pub over_a_weekend : next_day [] 20171124 ≡ Ok (date_of 20171127)
  pub over_a_month_end : further_day [] 20171130 1 ≡ Ok (date_of 20171201)
  -- none further on is the start itself, a Sunday here
  pub itself : further_day [] 20171112 0 ≡ Ok (date_of 20171112)
  -- the last date
  pub last : further_day [] 29991231 0 ≡ Ok (date_of 29991231)
  pub to_the_last : further_day [] 29991230 1 ≡ Ok (date_of 29991231)
  pub past_the_last : further_day [] 29991230 2 ≡ Err NoSuchDay
  pub none_after_the_last : further_day [] 29991231 1 ≡ Err NoSuchDay
  -- 14 though no holiday is read; 2 before 14
  pub equal_holidays : further_day (20171114 ∷ 20171114 ∷ []) 20171113 0 ≡ Err BadHolidays
  pub ten_on : further_day (20171114 ∷ 20171114 ∷ []) 20171113 10 ≡ Err BadArgument
  pub no_date : further_day [] 20170229 0 ≡ Err BadArgument
