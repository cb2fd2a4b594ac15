-- Laws of rule lists: which list gives the code where one follows another. Assumes nothing.
use Prim.Native.Nat.{ℕ}
use native.Mathlib.Omega.{arith}
use mathlib.Core.Path.{◌≡◌, refl}
use mathlib.Core.Bool.{Bool, true, false, cond}
use mathlib.Core.List.{List, [], ◌∷◌, ◌++◌}
use Rattle.rules.specs.Rules.{Rule, rule, first}
use Rattle.std.specs.Prelude.{Result, Ok, Err, ⊤}

module _ {C : Type 0} where
  -- the code of the first list, or else that of the second
  abbrev or_else : Result ⊤ C → Result ⊤ C → Result ⊤ C
  or_else (Ok tt) v = v
  or_else (Err c) v = Err c

  first-append : (xs ys : List (Rule C)) → first (xs ++ ys) ≡ or_else (first xs) (first ys)
  first-append [] ys = refl
  first-append (rule b c ∷ xs) ys = go b (first-append xs ys)
    where
      go : (t : Bool) → first (xs ++ ys) ≡ or_else (first xs) (first ys) → cond t (Err c) (first (xs ++ ys)) ≡ or_else (cond t (Err c) (first xs)) (first ys)
      go true e = refl
      go false e = e

  -- each condition of a list of rules is false, as where no code comes
  abbrev pub Off : List (Rule C) → Type 0
  Off [] = Unit {0}
  Off (rule b c ∷ rs) = (b ≡ false) × Off rs

  pub clear-off : (rs : List (Rule C)) → first rs ≡ Ok tt → Off rs
  clear-off [] e = tt
  clear-off (rule true c ∷ rs) e = let z : ◌≡◌ {A = ℕ} 0 1 = cc in absurd (omega arith)
  clear-off (rule false c ∷ rs) e = (refl, clear-off rs e)

  -- a list that stops, or is clear, before another
  pub first-stop : (xs ys : List (Rule C)) {c : C} → first xs ≡ Err c → first (xs ++ ys) ≡ Err c
  first-stop xs ys e = rw (first-append, e)

  pub first-clear : (xs ys : List (Rule C)) → first xs ≡ Ok tt → first (xs ++ ys) ≡ first ys
  first-clear xs ys e = rw (first-append, e)
