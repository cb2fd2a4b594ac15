-- `units::days::days_before_month` meets its contract: the table's rule is `month-starts`.
use Prim.Native.Nat.{ℕ, ◌+◌, ◌-◌, ◌≤◌, ◌<◌}
use mathlib.Core.Path.{◌≡◌, sym, ◌∙◌}
use mathlib.Core.Bool.{cond}
use native.Mathlib.Omega.{arith}
use lib.ListN.{get_or}
use borrow.Author.Tests.{lt-ltb, le-ltb}
use Rattle.units.specs.Calendar.{is_leap}
use Rattle.units.specs.Days.{days_of_months}
use Rattle.units.proofs.MonthLaws.{starts, month-starts}
use Rattle.units.proofs.days.days_before_month.Goals as goal

-- after February: a day more in a leap year
late : (y m : ℕ) → 2 < m → m ≤ 12 → days_of_months y (m - 1) ≡ get_or starts (m - 1) 0 + cond (is_leap y) 1 0
late y m h l = let k : m - 1 < 12 = omega arith in simp (lt-ltb 1 (m - 1) (omega arith)) at (month-starts y (m - 1) k)

pub returns-then-m-le2 : goal.returns-then-m-le2
returns-then-m-le2 c =
    let a = c.args in
    let k : a.m - 1 < 12 = omega arith in
    omega (arith, simp (le-ltb 1 (a.m - 1) (omega arith)) at (month-starts a.y (a.m - 1) k))

pub returns-then-leap : goal.returns-then-leap
returns-then-leap c =
    let a = c.args in
    omega (arith, simp (sym c.leap.ensures ∙ c.if-leap.true) at (late a.y a.m (omega arith) (omega arith)))

pub returns-else-leap : goal.returns-else-leap
returns-else-leap c =
    let a = c.args in
    omega (arith, simp (sym c.leap.ensures ∙ c.if-leap.false) at (late a.y a.m (omega arith) (omega arith)))
