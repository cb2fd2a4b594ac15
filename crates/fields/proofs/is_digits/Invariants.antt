-- `fields::is_digits` meets its contract. The invariant: the bytes from at + i on are the last digits of n, and m is what is left of n.
use Prim.Native.Nat.{ℕ, ◌+◌, ◌-◌, ◌/◌, ◌^◌, ◌≤◌, ◌<◌}
use mathlib.Core.Path.{◌≡◌}
use lib.ListN.{get_or}
use Rattle.fields.specs.Digits.{digits}
use Rattle.fields.proofs.is_digits.Given as goal

abbrev pub invariant-loop-i : goal.invariant-loop-i
invariant-loop-i l =
    ((k : ℕ) → l.i ≤ k → k < l.width → get_or l.s (l.at + k) 0 ≡ get_or (digits l.width l.n) (0 + k) 0)
    × (l.m ≡ l.n / 10 ^ (l.width - l.i))
