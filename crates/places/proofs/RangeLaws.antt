-- Tests of each place from a on, by number, as the tests of the list from there. Assumes nothing.
use Prim.Native.Nat.{ℕ, zero, suc, ◌+◌, ◌≤◌}
use mathlib.Core.Path.{◌≡◌, refl, ap, ◌∙◌}
use mathlib.Core.Bool.{Bool, ◌&&◌, ◌||◌}
use mathlib.Core.List.{List}
use native.Mathlib.Omega.{arith}
use native.Mathlib.Numerals.{add-one}
use lib.ListN.{length, get_or, take, drop}
use Rattle.std.proofs.Common.{drop-cons}
use Rattle.std.specs.List.{list_any, list_all, range_with_len}
use Rattle.rules.specs.Lists.{every, has}

module _ {A : Type 0} (p : A → Bool) (xs : List A) (d : A) where
  any-places : (a k : ℕ) → a + k ≤ length xs → list_any (λ i. p (get_or xs i d)) (range_with_len a k) ≡ has p (take k (drop a xs))
  any-places a zero h = refl
  any-places a (suc k) h =
      ap (λ (b : Bool). p (get_or xs a d) || b) (any-places (a + 1) k (omega arith))
      ∙ rw (add-one a, drop-cons xs a d (omega arith))

  all-places : (a k : ℕ) → a + k ≤ length xs → list_all (λ i. p (get_or xs i d)) (range_with_len a k) ≡ every p (take k (drop a xs))
  all-places a zero h = refl
  all-places a (suc k) h =
      ap (λ (b : Bool). p (get_or xs a d) && b) (all-places (a + 1) k (omega arith))
      ∙ rw (add-one a, drop-cons xs a d (omega arith))

  pub any-first : (n : ℕ) → n ≤ length xs → list_any (λ i. p (get_or xs i d)) (range_with_len 0 n) ≡ has p (take n xs)
  any-first n h = any-places 0 n (omega arith)

  pub all-first : (n : ℕ) → n ≤ length xs → list_all (λ i. p (get_or xs i d)) (range_with_len 0 n) ≡ every p (take n xs)
  all-first n h = all-places 0 n (omega arith)
