use mathlib.Core.Path.{◌≡◌}
use mathlib.Core.Bool.{true}
use lib.ListN.{take}
use Rattle.fields.specs.Digits.{number, numeric}
use Rattle.fields.proofs.read_digits.Given as goal

abbrev pub invariant-loop-x : goal.invariant-loop-x
invariant-loop-x l = (numeric (take l.x-index l.f) ≡ true) × (l.n ≡ number (take l.x-index l.f))
