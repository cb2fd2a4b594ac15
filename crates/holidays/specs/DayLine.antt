-- The line that program `business_day` prints: "a printed line ends in byte 10, and a refusal prints `stopped,` and its number". Assumes nothing.
use Rattle.std.specs.Prelude.{ℕ, cond, List, [], ◌∷◌, ◌++◌, ltb, Result, Ok, Err}
use Rattle.fields.specs.Text.{text}
use Rattle.fields.specs.Digits.{digits}
use Rattle.calendar.specs.BusinessDays.{further_day}
use Rattle.holidays.specs.Lines.{date_in, digit_in, holidays_of}
use Rattle.units.specs.declared.Date.{Date}
use Rattle.rules.specs.declared.Cause.{Cause}
use Rattle.rules.specs.Numbers.{cause_number}

-- a cause's number has no leading zero: 2, 14, 15
abbrev pub number_width : ℕ → ℕ
number_width n = cond (ltb n 10) 1 2

-- stopped,14
unfoldable pub refusal_line : ℕ → List ℕ
refusal_line n = text "stopped," ++ digits (number_width n) n ++ (10 ∷ [])

-- 20171116, or the refusal
abbrev pub day_line : Result Date Cause → List ℕ
day_line (Ok d) = digits 8 d.0 ++ (10 ∷ [])
day_line (Err c) = refusal_line (cause_number c)

-- the bytes of the longest of these lines
abbrev pub day_room : ℕ
day_room = 11

-- the date that is worked out of the bytes of DATE and NUMBER and of the holidays' lines
unfoldable pub day_of : List ℕ → List ℕ → List ℕ → Result Date Cause
day_of date number s = further_day (holidays_of s) (date_in date) (digit_in number)
