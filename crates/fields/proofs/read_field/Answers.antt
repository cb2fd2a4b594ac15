use Prim.Native.Nat.{ℕ, ◌+◌, ◌-◌}
use mathlib.Core.Path.{◌≡◌, ap, ◌∙◌}
use native.Mathlib.Omega.{arith}
use lib.ListN.{take, drop}
use Rattle.fields.specs.Put.{part}
use Rattle.fields.specs.Field.{field_of}
use Rattle.fields.proofs.read_field.Goals as goal

pub returns : goal.returns
unfolding part
returns c =
    let a = c.args in
    let e : a.at + a.width - a.at ≡ a.width = omega arith in
    c.read_digits.ensures ∙ ap (λ (k : ℕ). field_of (take k (drop a.at a.s.now))) e
