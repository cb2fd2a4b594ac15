-- What a read came to. Assumes nothing.
use Rattle.std.proofs.Common.{◌≡◌, ℕ, zero, suc, List, [], ◌++◌, Option, None, Some, Result, Ok, Err, length, take, refl, sym, ap, subst, ◌∙◌, arith, drop_at, length-append}
use Rattle.std.proofs.lemmas.List.{drop-take}
use lib.Seq.{take-append-le}
use Rattle.std.specs.Io.KnownBytes.{Keeps, Consumes, ReadConsumes}
use Rattle.std.specs.declared.io.Error.{Error}
use Rattle.input.specs.Filled.{Filled, filled_by, Moved, Comes}

-- a reader that took no byte keeps its own
none_taken : (a b : Option (List ℕ)) → Consumes a b [] → Keeps a b
none_taken None b p = tt
none_taken (Some x) None p = absurd p
none_taken (Some x) (Some y) p = sym p

-- what a read into the last part of a buffer came to, of the whole buffer
module _ (have : ℕ) (front part rest : List ℕ) (a b : Option (List ℕ)) (long : length front ≡ have) (none : length rest ≡ 0) where
  by_answer : (got : Result ℕ Error) → Moved (length part) got → ReadConsumes a b got part → Comes have (front ++ (part ++ rest)) a b (filled_by got have)
  by_answer (Err e) m q = q
  by_answer (Ok zero) m q =
      (none_taken a b q.0, λ l. q.1 refl (omega (arith, l, long, none, length-append front (part ++ rest), length-append part rest)))
  by_answer (Ok (suc k)) m q =
      let all = front ++ (part ++ rest) in
      let e = drop-take have (suc k) all ∙ ap (take (suc k)) (drop_at front (part ++ rest) have long) ∙ take-append-le (suc k) part rest m in
      subst (Consumes a b) (sym e) q.0

  pub comes : (got : Result ℕ Error) (r : Filled) → Moved (length part) got → ReadConsumes a b got part → r ≡ filled_by got have
      → Comes have (front ++ (part ++ rest)) a b r
  comes got r m q e = subst (Comes have (front ++ (part ++ rest)) a b) (sym e) (by_answer got m q)
