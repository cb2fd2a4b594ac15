-- What the derived comparisons of dates answer, and so those of the other quantities: the tests of their numbers. Assumes nothing.
use Prim.Native.Nat.{ℕ}
use mathlib.Core.Path.{◌≡◌}
use mathlib.Core.Bool.{not}
use native.Mathlib.Omega.{arith}
use lib.Dec.{leb, ltb}
use Rattle.std.specs.Ordering.{nat_cmp, is_lt, is_le}
use Rattle.std.proofs.lemmas.Bool.Decides.{nat_tests}

pub date-lt : (a b : ℕ) → is_lt (nat_cmp a b) ≡ ltb a b
date-lt a b = grind (arith, nat_tests)

pub date-le : (a b : ℕ) → is_le (nat_cmp a b) ≡ leb a b
date-le a b = grind (arith, nat_tests)

pub date-le-lt : (a b : ℕ) → is_le (nat_cmp a b) ≡ not (ltb b a)
date-le-lt a b = grind (arith, nat_tests)
