-- Laws of rules in an order, and of the sum of four tiers. Assumes nothing.
use mathlib.Core.Path.{◌≡◌, refl}
use mathlib.Core.Bool.{true, false, not}
use Prim.Native.Nat.{ℕ, ◌+◌}
use native.Mathlib.Omega.{arith}
use lib.Dec.{eqb}
use Rattle.fields.specs.Field.{bad}
use Rattle.units.specs.declared.Rate.{Rate}
use Rattle.records.specs.declared.Tiers.{Tiers}
use Rattle.verdict.specs.Lines.{rate_of, misses}
use Rattle.std.specs.Prelude.{Option, Some, None}

-- ---- tier 1's rate, told from what was read
pub rate-good : (f : Option ℕ) {r : Rate} → rate_of f ≡ Some r → bad f ≡ false
rate-good (Some n) e = refl
rate-good None e = let z : ◌≡◌ {A = ℕ} 0 1 = cc in absurd (omega arith)

pub rate-bad : (f : Option ℕ) → rate_of f ≡ None → bad f ≡ true
rate-bad (Some n) e = let z : ◌≡◌ {A = ℕ} 0 1 = cc in absurd (omega arith)
rate-bad None e = refl

-- ---- four tiers that hold numbers add up to a total, or not, as the numbers do
pub sum-misses : {o : Option Tiers} {t : Tiers} {sum : ℕ} (total : ℕ) → o ≡ Some t → sum ≡ t.0 + (t.1 + (t.2 + t.3)) → misses o total ≡ not (eqb sum total)
sum-misses total p q = rw (p, q)
