-- `units::days::days_before_year` meets its contract: the closed form of `days_of_years`.
use Prim.Native.Nat.{ℕ, ◌+◌, ◌*◌, ◌-◌, ◌/◌, ◌≤◌}
use mathlib.Core.Path.{◌≡◌}
use native.Mathlib.Omega.{arith}
use Rattle.units.specs.Days.{days_of_years}
use Rattle.units.proofs.YearLaws.{years-closed}
use Rattle.units.proofs.days.days_before_year.Goals as goal

closed : (y : ℕ) → 1900 ≤ y → days_of_years (y - 1900) + 460 + (y - 1) / 100 ≡ (y - 1900) * 365 + (y - 1) / 4 + (y - 1) / 400
closed y h = let e : 1899 + (y - 1900) ≡ y - 1 = omega arith in omega (arith, rw e at (years-closed (y - 1900)))

pub returns : goal.returns
returns c = omega (arith, closed c.args.y c.requires.0)
