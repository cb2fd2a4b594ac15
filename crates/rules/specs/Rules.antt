-- "The first true condition, as written, gives the code": conditions in an order are a list of rules. Assumes nothing.
use Rattle.std.specs.Prelude.{Bool, cond, List, [], ◌∷◌, Result, Ok, Err, ⊤}

-- a condition, and the code or cause that it gives
pub data Rule (C : Type 0) : Type 0 where
  rule : Bool → C → Rule C

module _ {C : Type 0} where
  -- the code or cause of the first condition that is true
  abbrev pub first : List (Rule C) → Result ⊤ C
  first [] = Ok tt
  first (rule b c ∷ rs) = cond b (Err c) (first rs)

  -- rules that hold only in a case
  abbrev pub only : Bool → List (Rule C) → List (Rule C)
  only b rs = cond b rs []
