-- The same day one year on, and the order of dates by their days. Assumes nothing.
use Prim.Native.Nat.{ℕ, zero, suc, ◌+◌, ◌-◌, ◌%◌, ◌≤◌, ◌<◌}
use mathlib.Core.Path.{◌≡◌, refl, ap}
use mathlib.Core.Bool.{true}
use native.Mathlib.Decide.{dec_le}
use native.Mathlib.Omega.{arith}
use lib.Dec.{eqb}
use borrow.Author.Tests.{eqb-true, eqb-false}
use Rattle.fields.proofs.BoolLaws.{cases}
use Rattle.units.specs.Calendar.{year, month, day, is_leap, month_days, is_date}
use Rattle.units.specs.Days.{first_year, year_days, days_of_years, days_of_months, day_number, year_on}
use Rattle.units.proofs.MonthLaws.{month-long}
use Rattle.units.proofs.DateLaws.{date-parts, parts-date, date-month, date-day}
use Rattle.statements.specs.Papers.{OneYearOn}

-- ---- the same day one year on
-- February apart, a month is as long in one year as in another
same-month : (y z m : ℕ) → (m ≡ 2 → ⊥) → month_days y m ≡ month_days z m
unfolding month_days
same-month y z zero h = refl
same-month y z (suc zero) h = refl
same-month y z (suc (suc zero)) h = absurd (h refl)
same-month y z (suc (suc (suc m))) h = refl

february : (y : ℕ) → month_days y 2 ≤ 29
unfolding month_days
february y = cases (is_leap y) (λ e. rw e (omega arith)) (λ e. rw e (omega arith))

-- a day that is not 29 February is one of that month a year on
kept-day : (d : ℕ) → is_date d ≡ true → (d % 10000 ≡ 229 → ⊥) → day d ≤ month_days (year d + 1) (month d)
kept-day d h n =
    let p = date-parts d h in
    cases (eqb (month d) 2)
    (λ e.
    let q : month d ≡ 2 = eqb-true (month d) 2 e in
    let f : month_days (year d) (month d) ≤ 29 = rw q (february (year d)) in
    let g : 28 ≤ month_days (year d + 1) (month d) = rw q (month-long (year d + 1) 2 (omega arith) (omega arith)).0 in
    omega (arith, p.within, f, g, n, q))
    (λ e. rw (same-month (year d + 1) (year d) (month d) (eqb-false (month d) 2 e)) p.within)

pub one-year-on : (d : ℕ) → is_date d ≡ true → year d ≤ 2998 → OneYearOn d (year_on d)
unfolding year_on
one-year-on d h l =
    let p = date-parts d h in
    cases (eqb (d % 10000) 229)
    (λ e.
    let q = eqb-true (d % 10000) 229 e in
    let y : year (d + 9999) ≡ year d + 1 = omega (arith, q) in
    let m : month (d + 9999) ≡ 2 = omega (arith, q) in
    let k : day (d + 9999) ≡ 28 = omega (arith, q) in
    let w : 28 ≤ month_days (year d + 1) 2 = (month-long (year d + 1) 2 (omega arith) (omega arith)).0 in
    rw e
    (record {
      date = parts-date (d + 9999) (record { from = omega (arith, y, p.from); to = omega (arith, y, l); some = omega (arith, k); within = rw (y, m) (omega (arith, k, w)) });
      year = y;
      month = omega (arith, m, q);
      day = rw e k;
    }))
    (λ e.
    let q = eqb-false (d % 10000) 229 e in
    let y : year (d + 10000) ≡ year d + 1 = omega arith in
    let m : month (d + 10000) ≡ month d = omega arith in
    let k : day (d + 10000) ≡ day d = omega arith in
    rw e
    (record {
      date = parts-date (d + 10000) (record { from = omega (arith, y, p.from); to = omega (arith, y, l); some = omega (arith, k, p.some); within = rw (y, m) (omega (arith, k, kept-day d h q)) });
      year = y;
      month = m;
      day = rw e k;
    }))

-- ---- a later date has no smaller number
years-up : (a k : ℕ) → days_of_years a ≤ days_of_years (k + a)
unfolding days_of_years
years-up a zero = let e : 0 + a ≡ a = omega arith in rw e (omega arith)
years-up a (suc k) = let e : suc k + a ≡ suc (k + a) = omega arith in rw e (omega (arith, years-up a k))

months-up : (y a k : ℕ) → days_of_months y a ≤ days_of_months y (k + a)
unfolding days_of_months
months-up y a zero = let e : 0 + a ≡ a = omega arith in rw e (omega arith)
months-up y a (suc k) = let e : suc k + a ≡ suc (k + a) = omega arith in rw e (omega (arith, months-up y a k))

-- the months of a year make the year
whole-year : (y : ℕ) → days_of_months y 12 ≡ year_days y
unfolding days_of_months month_days
whole-year y = cases (is_leap y) (λ e. rw e) (λ e. rw e)

-- what stands before a day of month m + 1 is less than the first m + 1 months
in-months : (y m n : ℕ) → n < month_days y (suc m) → days_of_months y m + n < days_of_months y (suc m)
unfolding days_of_months
in-months y m n h = omega (arith, h)

-- of the days before a date of its year there are fewer than the year has
in-year : (d : ℕ) → is_date d ≡ true → days_of_months (year d) (month d - 1) + (day d - 1) < year_days (year d)
in-year d h =
    let p = date-parts d h in
    let k = date-month d h in
    let e : suc (month d - 1) ≡ month d = omega arith in
    let a : day d - 1 < month_days (year d) (suc (month d - 1)) = rw e (omega (arith, p.within, p.some)) in
    let f : 12 - month d + month d ≡ 12 = omega arith in
    let c : days_of_months (year d) (month d) ≤ days_of_months (year d) 12 = rw f at (months-up (year d) (month d) (12 - month d)) in
    omega (arith, rw e at (in-months (year d) (month d - 1) (day d - 1) a), c, whole-year (year d))

-- dates of one year: by their months, and in one month by their days
in-one-year : (d e : ℕ) → is_date d ≡ true → is_date e ≡ true → year d ≡ year e → d ≤ e
    → days_of_months (year d) (month d - 1) + (day d - 1) ≤ days_of_months (year e) (month e - 1) + (day e - 1)
in-one-year d e h i y l =
    let p = date-parts d h in
    let q = date-parts e i in
    let k = date-month d h in
    let j = date-month e i in
    elim (dec_le (month e) (month d)) [
      | yes g ↦ (
          let m : month d ≡ month e = omega arith in
          rw (y, m) (omega arith))
      | no g ↦ (
          let u : suc (month d - 1) ≡ month d = omega arith in
          let a : day d - 1 < month_days (year d) (suc (month d - 1)) = rw u (omega (arith, p.within, p.some)) in
          let w : month e - 1 - month d + month d ≡ month e - 1 = omega arith in
          let c : days_of_months (year d) (month d) ≤ days_of_months (year d) (month e - 1) = rw w at (months-up (year d) (month d) (month e - 1 - month d)) in
          rw (← y) (omega (arith, rw u at (in-months (year d) (month d - 1) (day d - 1) a), c)))
    ]

one_more : (y : ℕ) → first_year ≤ y → days_of_years (suc (y - first_year)) ≡ days_of_years (y - first_year) + year_days y
unfolding days_of_years
one_more y f = let e : first_year + (y - first_year) ≡ y = omega arith in ap (λ (n : ℕ). days_of_years (y - first_year) + year_days n) e

pub number-order : (d e : ℕ) → is_date d ≡ true → is_date e ≡ true → d ≤ e → day_number d ≤ day_number e
unfolding day_number
number-order d e h i l =
    let p = date-parts d h in
    let q = date-parts e i in
    elim (dec_le (year e) (year d)) [
      | yes g ↦ (
          let y : year d ≡ year e = omega (arith, date-month d h, date-month e i, date-day d h, date-day e i) in
          let z : days_of_years (year d - first_year) ≡ days_of_years (year e - first_year) = ap (λ (n : ℕ). days_of_years (n - first_year)) y in
          omega (arith, in-one-year d e h i y l, z))
      | no g ↦ (
          let w : year e - first_year - suc (year d - first_year) + suc (year d - first_year) ≡ year e - first_year = omega arith in
          let c : days_of_years (suc (year d - first_year)) ≤ days_of_years (year e - first_year) = rw w at (years-up (suc (year d - first_year)) (year e - first_year - suc (year d - first_year))) in
          omega (arith, in-year d h, one_more (year d) p.from, c))
    ]
