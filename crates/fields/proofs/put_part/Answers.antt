use Prim.Native.Nat.{ℕ, ◌+◌, ◌-◌}
use mathlib.Core.Path.{◌≡◌, ap, ◌∙◌}
use native.Mathlib.Omega.{arith}
use lib.ListN.{take, drop}
use Rattle.fields.specs.Put.{put, part}
use Rattle.fields.proofs.put_part.Goals as goal

pub returns : goal.returns
unfolding part
returns c =
    let a = c.args in
    let e : a.from + a.n - a.from ≡ a.n = omega arith in
    c.put_bytes.ensures ∙ ap (λ (k : ℕ). put a.out.now a.at (take k (drop a.from a.src.now))) e
