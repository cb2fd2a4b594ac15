-- "A date is yyyymmdd, Gregorian, years 1900 to 2999." Assumes nothing.
use Rattle.std.specs.Prelude.{ℕ, ◌/◌, ◌%◌, Bool, cond, not, ◌&&◌, ◌||◌, List, [], ◌∷◌, leb, eqb, get_or}
use Rattle.units.specs.declared.Date.{Date}

-- yyyy, mm and dd of yyyymmdd
abbrev pub year : ℕ → ℕ
year d = d / 10000

abbrev pub month : ℕ → ℕ
month d = d / 100 % 100

abbrev pub day : ℕ → ℕ
day d = d % 100

-- a leap year: divisible by 400, or by 4 and not by 100
unfoldable pub is_leap : ℕ → Bool
is_leap y = eqb (y % 400) 0 || not (eqb (y % 100) 0) && eqb (y % 4) 0

-- the lengths of the months 1 to 12, of which the second has f days; there is no month 0
abbrev pub months : ℕ → List ℕ
months f = 0 ∷ 31 ∷ f ∷ 31 ∷ 30 ∷ 31 ∷ 30 ∷ 31 ∷ 31 ∷ 30 ∷ 31 ∷ 30 ∷ 31 ∷ []

-- "A month's length depends on the month and, in February, on the year": 0 where m is no month
unfoldable pub month_days : ℕ → ℕ → ℕ
month_days y m = get_or (months (cond (is_leap y) 29 28)) m 0

-- d is yyyymmdd of a date in the years 1900 to 2999
unfoldable pub is_date : ℕ → Bool
is_date d = leb 1900 (year d) && leb (year d) 2999 && leb 1 (day d) && leb (day d) (month_days (year d) (month d))

-- the date of yyyymmdd
abbrev pub date_of : ℕ → Date
date_of n = record { 0 = n }
