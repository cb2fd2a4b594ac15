-- The days of years in closed form. Assumes nothing.
use Prim.Native.Nat.{ℕ, zero, suc, ◌+◌, ◌*◌, ◌/◌, ◌%◌, ◌≤◌, ◌<◌}
use mathlib.Core.Path.{◌≡◌, refl}
use native.Mathlib.Omega.{arith}
use lib.Dec.{eqb}
use borrow.Author.Tests.{eqb-true, eqb-false}
use Rattle.fields.proofs.BoolLaws.{cases}
use Rattle.units.specs.Calendar.{is_leap}
use Rattle.units.specs.Days.{year_days, days_of_years}

-- a quotient rises where the remainder is 0, and stays elsewhere
up-4 : (y : ℕ) → suc y % 4 ≡ 0 → suc y / 4 ≡ y / 4 + 1
up-4 y e = omega (arith, e)

same-4 : (y : ℕ) → (suc y % 4 ≡ 0 → ⊥) → suc y / 4 ≡ y / 4
same-4 y e = omega (arith, e)

up-100 : (y : ℕ) → suc y % 100 ≡ 0 → suc y / 100 ≡ y / 100 + 1
up-100 y e = omega (arith, e)

same-100 : (y : ℕ) → (suc y % 100 ≡ 0 → ⊥) → suc y / 100 ≡ y / 100
same-100 y e = omega (arith, e)

up-400 : (y : ℕ) → suc y % 400 ≡ 0 → suc y / 400 ≡ y / 400 + 1
up-400 y e = omega (arith, e)

same-400 : (y : ℕ) → (suc y % 400 ≡ 0 → ⊥) → suc y / 400 ≡ y / 400
same-400 y e = omega (arith, e)

by-100 : (x : ℕ) → x % 400 ≡ 0 → x % 100 ≡ 0
by-100 x e = omega (arith, e)

by_4 : (x : ℕ) → x % 100 ≡ 0 → x % 4 ≡ 0
by_4 x e = omega (arith, e)

-- a year more
year-step : (y : ℕ) → year_days (suc y) + suc y / 100 + y / 4 + y / 400 ≡ 365 + y / 100 + suc y / 4 + suc y / 400
unfolding is_leap
year-step y =
    cases (eqb (suc y % 400) 0)
    (λ a.
    let p = eqb-true (suc y % 400) 0 a in
    let q = by-100 (suc y) p in
    rw (a, up-400 y p, up-100 y q, up-4 y (by_4 (suc y) q)) (omega arith))
    (λ a.
    let p = same-400 y (eqb-false (suc y % 400) 0 a) in
    cases (eqb (suc y % 100) 0)
    (λ b. let q = eqb-true (suc y % 100) 0 b in rw (a, b, p, up-100 y q, up-4 y (by_4 (suc y) q)) (omega arith))
    (λ b.
    let q = same-100 y (eqb-false (suc y % 100) 0 b) in
    cases (eqb (suc y % 4) 0)
    (λ c. rw (a, b, c, p, q, up-4 y (eqb-true (suc y % 4) 0 c)) (omega arith))
    (λ c. rw (a, b, c, p, q, same-4 y (eqb-false (suc y % 4) 0 c)) (omega arith))))

pub years-closed : (n : ℕ) → days_of_years n + 460 + (1899 + n) / 100 ≡ 365 * n + (1899 + n) / 4 + (1899 + n) / 400
unfolding days_of_years
years-closed zero = refl
years-closed (suc n) =
    let e : 1900 + n ≡ suc (1899 + n) = omega arith in
    let f : 1899 + suc n ≡ suc (1899 + n) = omega arith in
    rw (e, f) (omega (arith, years-closed n, year-step (1899 + n)))

pub years-most : (n : ℕ) → n ≤ 1099 → days_of_years n < 500000
years-most n h = omega (arith, years-closed n)
