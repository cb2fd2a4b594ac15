-- Paper 1 of document 02: weekdays, business days, and what each is refused for. Dates are numbers yyyymmdd; hs are the holidays. Assumes nothing.
use Rattle.std.specs.Prelude.{ℕ, zero, suc, ◌+◌, ◌-◌, Bool, true, false, cond, not, ◌&&◌, List, [], ◌∷◌, leb, ltb, eqb, length, Option, Some, None, Result, Ok, Err, ⊤}
use Rattle.rules.specs.Rules.{Rule, rule, first}
use Rattle.rules.specs.Lists.{every, has}
use Rattle.rules.specs.Least.{least_up_to}
use Rattle.units.specs.Calendar.{is_date, date_of}
use Rattle.units.specs.Days.{last_date, weekday}
use Rattle.units.specs.declared.Date.{Date}
use Rattle.rules.specs.declared.Cause.{Cause}
use Rattle.rules.specs.declared.Cause.TheVariants.{BadArgument, BadHolidays, NoSuchDay}

-- ---- business days
-- "Saturdays, Sundays and a lent list of up to 64 holiday dates are no business days."
unfoldable pub is_business_day : List ℕ → ℕ → Bool
is_business_day hs d = is_date d && leb (weekday d) 5 && not (has (eqb d) hs)

-- "the next business day (the first one after the date)", up to 29991231
unfoldable pub next_business_day : List ℕ → ℕ → Option ℕ
next_business_day hs d = least_up_to (is_business_day hs) (suc d) last_date

-- how many of the n numbers after start are business days
unfoldable pub business_days : List ℕ → ℕ → ℕ → ℕ
business_days hs start zero = 0
business_days hs start (suc n) = business_days hs start n + cond (is_business_day hs (start + suc n)) 1 0

-- d is a date "with exactly that many business days after the start up to it"
unfoldable pub is_further : List ℕ → ℕ → ℕ → ℕ → Bool
is_further hs start number d = is_date d && eqb (business_days hs start (d - start)) number

-- "the business day a given number .. further on": "The date is the least one from the start on, with exactly that many business days after the start up to
-- it, so 0 gives the start itself."
unfoldable pub business_day : List ℕ → ℕ → ℕ → Option ℕ
business_day hs start number = least_up_to (is_further hs start number) start last_date

-- ---- causes
-- the holidays strictly rise: each is before those after it
unfoldable pub rise : List ℕ → Bool
rise [] = true
rise (h ∷ hs) = every (ltb h) hs && rise hs

abbrev pub most_holidays : ℕ
most_holidays = 64

abbrev pub good_holidays : List ℕ → Bool
good_holidays hs = rise hs && leb (length hs) most_holidays && every is_date hs

abbrev pub is_none : Option ℕ → Bool
is_none (Some d) = false
is_none None = true

-- "Refused: 14, the holidays don't strictly rise, are over 64 or one is no date, after 2 of the same call; 15, no such day up to 29991231, after 14"
abbrev pub day_causes : List ℕ → Option ℕ → List (Rule Cause)
day_causes hs found = rule (not (good_holidays hs)) BadHolidays ∷ rule (is_none found) NoSuchDay ∷ []

-- the weekday of a date: 2 for no date
abbrev pub weekday_causes : ℕ → List (Rule Cause)
weekday_causes d = rule (not (is_date d)) BadArgument ∷ []

unfoldable pub next_causes : List ℕ → ℕ → List (Rule Cause)
next_causes hs d = rule (not (is_date d)) BadArgument ∷ day_causes hs (next_business_day hs d)

-- "a given number (0 to 9, else 2)"
abbrev pub most_further : ℕ
most_further = 9

unfoldable pub further_causes : List ℕ → ℕ → ℕ → List (Rule Cause)
further_causes hs start number =
    rule (not (is_date start)) BadArgument ∷ rule (ltb most_further number) BadArgument ∷ day_causes hs (business_day hs start number)

-- ---- answers
-- the number that was found; 0, which is no date, where none was
abbrev pub number_in : Option ℕ → ℕ
number_in (Some d) = d
number_in None = 0

-- the first cause's number, or the date
abbrev pub day_by : Option ℕ → Result ⊤ Cause → Result Date Cause
day_by found (Ok tt) = Ok (date_of (number_in found))
day_by found (Err n) = Err n

abbrev pub weekday_by : ℕ → Result ⊤ Cause → Result ℕ Cause
weekday_by d (Ok tt) = Ok (weekday d)
weekday_by d (Err n) = Err n

unfoldable pub weekday_of : ℕ → Result ℕ Cause
weekday_of d = weekday_by d (first (weekday_causes d))

unfoldable pub next_day : List ℕ → ℕ → Result Date Cause
next_day hs d = day_by (next_business_day hs d) (first (next_causes hs d))

unfoldable pub further_day : List ℕ → ℕ → ℕ → Result Date Cause
further_day hs start number = day_by (business_day hs start number) (first (further_causes hs start number))
