-- The lengths of the months, and the days of a year before each. Assumes nothing.
use Prim.Native.Nat.{ℕ, zero, suc, ◌+◌, ◌≤◌, ◌<◌}
use mathlib.Core.Path.{◌≡◌, refl, ap, ◌∙◌}
use mathlib.Core.Bool.{Bool, true, false, cond, ◌&&◌}
use mathlib.Core.List.{List, [], ◌∷◌}
use native.Mathlib.Omega.{arith}
use native.Mathlib.Decide.{dec_le}
use native.Mathlib.Nat.{not-suc-le-zero}
use lib.Dec.{leb, ltb, eqb}
use lib.ListN.{get_or, get_or-eq_default}
use borrow.Author.Tests.{leb-true, eqb-true}
use Rattle.fields.proofs.BoolLaws.{and_left, and_right, cases}
use Rattle.units.specs.Calendar.{is_leap, months, month_days}
use Rattle.units.specs.Days.{days_of_months}

-- a test of each number below n, for the checker to compute
abbrev all_below : (ℕ → Bool) → ℕ → Bool
all_below p zero = true
all_below p (suc n) = p n && all_below p n

below : (p : ℕ → Bool) (n : ℕ) → all_below p n ≡ true → (k : ℕ) → k < n → p k ≡ true
below p zero h k l = absurd (not-suc-le-zero l)
below p (suc n) h k l =
    elim (dec_le n k) [
      | yes g ↦ (let e : k ≡ n = omega arith in rw e (and_left (p n) (all_below p n) h))
      | no g ↦ below p n (and_right (p n) (all_below p n) h) k (omega arith)
    ]

-- what holds with a February of 29 days and with one of 28 holds in every year
in-any-year : (P : ℕ → Type 0) → P 29 → P 28 → (y : ℕ) → P (cond (is_leap y) 29 28)
in-any-year P a b y = cases (is_leap y) (λ h. rw h a) (λ h. rw h b)

-- ---- lengths
lengths : ℕ → ℕ → Bool
lengths f k = leb 28 (get_or (months f) (suc k) 0) && leb (get_or (months f) (suc k) 0) 31

Long : ℕ → ℕ → Type 0
Long f m = (28 ≤ get_or (months f) m 0) × (get_or (months f) m 0 ≤ 31)

long : (f : ℕ) → all_below (lengths f) 12 ≡ true → (k : ℕ) → k < 12 → Long f (suc k)
unfolding lengths Long
long f h k l =
    let n = get_or (months f) (suc k) 0 in
    let t = below (lengths f) 12 h k l in
    (leb-true 28 n (and_left (leb 28 n) (leb n 31) t), leb-true n 31 (and_right (leb 28 n) (leb n 31) t))

pub month-long : (y m : ℕ) → 1 ≤ m → m ≤ 12 → (28 ≤ month_days y m) × (month_days y m ≤ 31)
unfolding month_days lengths Long
month-long y zero h l = elim h [ ]
month-long y (suc k) h l =
    in-any-year (λ f. Long f (suc k)) (long 29 refl k (omega arith)) (long 28 refl k (omega arith)) y

-- a month that has a day is one of twelve
pub month-some : (y m : ℕ) → 1 ≤ month_days y m → (1 ≤ m) × (m ≤ 12)
unfolding month_days
month-some y zero h = absurd (not-suc-le-zero h)
month-some y (suc k) h =
    elim (dec_le 12 k) [
      | yes g ↦ (let l : 13 ≤ suc k = omega arith in absurd (omega (arith, get_or-eq_default (months (cond (is_leap y) 29 28)) 0 l)))
      | no g ↦ (omega arith, omega arith)
    ]

pub december : (y : ℕ) → month_days y 12 ≡ 31
unfolding month_days
december y = refl

-- ---- days before a month
abbrev pub starts : List ℕ
starts = 0 ∷ 31 ∷ 59 ∷ 90 ∷ 120 ∷ 151 ∷ 181 ∷ 212 ∷ 243 ∷ 273 ∷ 304 ∷ 334 ∷ []

abbrev days_by : ℕ → ℕ → ℕ
days_by f zero = 0
days_by f (suc m) = days_by f m + get_or (months f) (suc m) 0

days-by : (y m : ℕ) → days_of_months y m ≡ days_by (cond (is_leap y) 29 28) m
unfolding days_of_months month_days
days-by y zero = refl
days-by y (suc m) = ap (λ (n : ℕ). n + get_or (months (cond (is_leap y) 29 28)) (suc m) 0) (days-by y m)

-- l days more after February
start : ℕ → ℕ → Bool
start l k = eqb (days_by (28 + l) k) (get_or starts k 0 + cond (ltb 1 k) l 0)

pub month-starts : (y k : ℕ) → k < 12 → days_of_months y k ≡ get_or starts k 0 + cond (ltb 1 k) (cond (is_leap y) 1 0) 0
unfolding start
month-starts y k h =
    days-by y k
    ∙ cases (is_leap y)
    (λ e. rw e (eqb-true (days_by 29 k) (get_or starts k 0 + cond (ltb 1 k) 1 0) (below (start 1) 12 refl k h)))
    (λ e. rw e (eqb-true (days_by 28 k) (get_or starts k 0 + cond (ltb 1 k) 0 0) (below (start 0) 12 refl k h)))

pub starts-most : (k : ℕ) → k < 12 → get_or starts k 0 ≤ 334
starts-most k h = leb-true (get_or starts k 0) 334 (below (λ j. leb (get_or starts j 0) 334) 12 refl k h)

one-most : (a b : Bool) → cond a (cond b 1 0) 0 ≤ 1
one-most true true = omega arith
one-most true false = omega arith
one-most false b = omega arith

pub months-most : (y k : ℕ) → k < 12 → days_of_months y k ≤ 335
months-most y k h = omega (arith, month-starts y k h, starts-most k h, one-most (ltb 1 k) (is_leap y))
