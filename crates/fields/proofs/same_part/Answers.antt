-- `fields::same_part` meets its contract: `==` compares element by element, as `same_list` does.
use mathlib.Core.Path.{◌≡◌, refl, ap, ap₂, ◌∙◌}
use mathlib.Core.Bool.{◌&&◌}
use mathlib.Core.List.{List, [], ◌∷◌}
use Prim.Native.Nat.{ℕ, ◌+◌, ◌-◌}
use native.Mathlib.Omega.{arith}
use lib.Dec.{eqb}
use lib.ListN.{take, drop}
use lib.Pointwise.{pointwise}
use Rattle.fields.specs.Put.{part, same_list}
use Rattle.fields.proofs.same_part.Goals as goal

pointwise-same : (xs ys : List ℕ) → pointwise eqb xs ys ≡ same_list xs ys
unfolding same_list
pointwise-same [] [] = refl
pointwise-same [] (y ∷ ys) = refl
pointwise-same (x ∷ xs) [] = refl
pointwise-same (x ∷ xs) (y ∷ ys) = ap (λ b. eqb x y && b) (pointwise-same xs ys)

pub returns : goal.returns
unfolding part
returns c =
    let a = c.args in
    let e : a.i + a.n - a.i ≡ a.n = omega arith in
    let f : a.j + a.n - a.j ≡ a.n = omega arith in
    c.eq.ensures ∙ pointwise-same _ _ ∙ ap₂ (λ k l. same_list (take k (drop a.i a.a.now)) (take l (drop a.j a.b.now))) e f
