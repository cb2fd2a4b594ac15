-- What a date's year, month and day are, and what the date after it is. Assumes nothing.
use Prim.Native.Nat.{ℕ, suc, ◌+◌, ◌-◌, ◌≤◌, ◌<◌, ◌^◌}
use mathlib.Core.Path.{◌≡◌, ◌∙◌}
use mathlib.Core.Bool.{true, false, ◌&&◌}
use native.Mathlib.Omega.{arith}
use lib.Dec.{leb}
use borrow.Author.Tests.{leb-true, le-leb}
use Rattle.fields.proofs.BoolLaws.{and_left, and_right, cases}
use Rattle.rules.proofs.LeastLaws.{up-to-hit, up-to-skip, up-to-found, up-to-before}
use Rattle.units.specs.Calendar.{year, month, day, month_days, is_date}
use Rattle.units.specs.Days.{first_year, last_date, days_of_years, days_of_months, day_number, next_date}
use Rattle.units.proofs.MonthLaws.{month-some, month-long, months-most}
use Rattle.units.proofs.YearLaws.{years-most}
use Rattle.std.specs.Prelude.{Some}

pub record Parts (d : ℕ) : Type 0 where
  pub from : 1900 ≤ year d
  pub to : year d ≤ 2999
  pub some : 1 ≤ day d
  pub within : day d ≤ month_days (year d) (month d)

pub date-parts : (d : ℕ) → is_date d ≡ true → Parts d
unfolding is_date
date-parts d h =
    let last = leb (day d) (month_days (year d) (month d)) in
    let a = and_left (leb 1900 (year d) && leb (year d) 2999 && leb 1 (day d)) last h in
    let b = and_left (leb 1900 (year d) && leb (year d) 2999) (leb 1 (day d)) a in
    record {
      from = leb-true 1900 (year d) (and_left (leb 1900 (year d)) (leb (year d) 2999) b);
      to = leb-true (year d) 2999 (and_right (leb 1900 (year d)) (leb (year d) 2999) b);
      some = leb-true 1 (day d) (and_right (leb 1900 (year d) && leb (year d) 2999) (leb 1 (day d)) a);
      within = leb-true (day d) (month_days (year d) (month d)) (and_right (leb 1900 (year d) && leb (year d) 2999 && leb 1 (day d)) last h);
    }

pub parts-date : (d : ℕ) → Parts d → is_date d ≡ true
unfolding is_date
parts-date d p = rw (le-leb 1900 (year d) p.from, le-leb (year d) 2999 p.to, le-leb 1 (day d) p.some) (le-leb (day d) (month_days (year d) (month d)) p.within)

-- a number whose day its month does not have
pub no-date : (d : ℕ) → (1 ≤ day d → day d ≤ month_days (year d) (month d) → ⊥) → is_date d ≡ false
no-date d f = cases (is_date d) (λ h. let p = date-parts d h in absurd (f p.some p.within)) (λ h. h)

pub date-month : (d : ℕ) → is_date d ≡ true → (1 ≤ month d) × (month d ≤ 12)
date-month d h = let p = date-parts d h in month-some (year d) (month d) (omega arith)

-- a month has at most 31 days
pub date-day : (d : ℕ) → is_date d ≡ true → day d ≤ 31
date-day d h =
    let p = date-parts d h in
    let m = date-month d h in
    omega (arith, month-long (year d) (month d) m.0 m.1)

pub date-last : (d : ℕ) → is_date d ≡ true → d ≤ last_date
date-last d h = let p = date-parts d h in omega (arith, date-month d h, date-day d h)

-- a date has eight digits
pub date-fits : (d : ℕ) → is_date d ≡ true → d < 10 ^ 8
date-fits d h = omega (arith, date-last d h)

-- no date is 00000000
pub date-some : (d : ℕ) → is_date d ≡ true → 0 < d
date-some d h = omega (arith, (date-parts d h).some)

-- the days of the years and months before a date, and the number of a date, are few
pub days-before : (d : ℕ) → is_date d ≡ true → days_of_years (year d - first_year) + days_of_months (year d) (month d - 1) < 600000
days-before d h =
    let p = date-parts d h in
    let m = date-month d h in
    omega (arith, years-most (year d - first_year) (omega arith), months-most (year d) (month d - 1) (omega arith))

pub number-few : (d : ℕ) → is_date d ≡ true → day_number d < 601000
unfolding day_number
number-few d h = omega (arith, days-before d h, date-day d h)

-- what the date r after d is: none is between them
pub record Next (d r : ℕ) : Type 0 where
  pub date : is_date r ≡ true
  pub after : d < r
  pub between : (e : ℕ) → d < e → e < r → is_date e ≡ false

pub next-found : (d r : ℕ) → Next d r → next_date d ≡ Some r
unfolding next_date
next-found d r n =
    let l = date-last r n.date in
    up-to-skip is_date (suc d) r last_date n.after (omega arith) n.between ∙ up-to-hit is_date r last_date l n.date

pub next-date : (d r : ℕ) → next_date d ≡ Some r → Next d r
unfolding next_date
next-date d r e =
    let f = up-to-found is_date (suc d) last_date r e in
    record { date = f.0; after = f.1; between = up-to-before is_date (suc d) last_date r e }
