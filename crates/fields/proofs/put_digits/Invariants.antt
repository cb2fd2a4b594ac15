-- `fields::put_digits` meets its contract. The invariant: the last width - i digits of n are written from at + i on, and m is what is left of n.
-- Assumes nothing.
use Prim.Native.Nat.{◌+◌, ◌-◌, ◌/◌, ◌^◌}
use mathlib.Core.Path.{◌≡◌}
use Rattle.fields.specs.Put.{put}
use Rattle.fields.specs.Digits.{digits}
use Rattle.fields.proofs.put_digits.Given as goal

abbrev pub invariant-loop-i : goal.invariant-loop-i
invariant-loop-i l =
    (l.out ≡ put l.initial.out (l.at + l.i) (digits (l.width - l.i) l.n)) × (l.m ≡ l.n / 10 ^ (l.width - l.i))
