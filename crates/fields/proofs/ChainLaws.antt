-- A record is a chain of fields; each field reads back at its place. One law over the index. Assumes nothing.
use mathlib.Core.Path.{◌≡◌, sym, ap, ◌∙◌}
use mathlib.Core.List.{List, [], ◌∷◌, ◌++◌, append_assoc, append-nil}
use Prim.Native.Nat.{ℕ, zero, suc, ◌+◌, ◌≤◌, ◌<◌}
use native.Mathlib.Omega.{arith}
use native.Mathlib.Nat.{add_assoc, zero-add, not-suc-le-zero, le_of_suc-le-suc}
use lib.ListN.{length, get_or}
use Rattle.fields.specs.Put.{part}
use Rattle.fields.proofs.PutLaws.{part_left, part_right}

-- fields joined from the left, as a definition joins them with ++
abbrev pub chain : List ℕ → List (List ℕ) → List ℕ
chain x [] = x
chain x (y ∷ ys) = chain (x ++ y) ys

-- the same from the right
joined : List (List ℕ) → List ℕ
joined [] = []
joined (x ∷ xs) = x ++ joined xs

chain-joined : (x : List ℕ) (ys : List (List ℕ)) → chain x ys ≡ x ++ joined ys
unfolding joined
chain-joined x [] = sym (append-nil x)
chain-joined x (y ∷ ys) = chain-joined (x ++ y) ys ∙ append_assoc x y (joined ys)

-- the fields have these widths
abbrev pub Widths : List (List ℕ) → List ℕ → Type 0
Widths [] [] = Unit {0}
Widths [] (w ∷ ws) = ⊥
Widths (x ∷ xs) [] = ⊥
Widths (x ∷ xs) (w ∷ ws) = (length x ≡ w) × Widths xs ws

-- where field k starts
abbrev pub start : List ℕ → ℕ → ℕ
start [] k = 0
start (w ∷ ws) zero = 0
start (w ∷ ws) (suc k) = w + start ws k

part-joined : (xs : List (List ℕ)) (ws : List ℕ) → Widths xs ws → (k i n : ℕ) → k < length ws → i + n ≤ get_or ws k 0
    → part (joined xs) (start ws k + i) n ≡ part (get_or xs k []) i n
unfolding joined
part-joined [] [] h k i n l m = absurd (not-suc-le-zero l)
part-joined [] (w ∷ ws) h k i n l m = absurd h
part-joined (x ∷ xs) [] h k i n l m = absurd h
part-joined (x ∷ xs) (w ∷ ws) h zero i n l m =
    ap (λ (j : ℕ). part (x ++ joined xs) j n) (zero-add i) ∙ part_left x (joined xs) i n (omega (arith, h.0))
part-joined (x ∷ xs) (w ∷ ws) h (suc k) i n l m =
    ap (λ (j : ℕ). part (x ++ joined xs) j n) (add_assoc w (start ws k) i)
    ∙ part_right x (joined xs) w (start ws k + i) n h.0
    ∙ part-joined xs ws h.1 k i n (le_of_suc-le-suc l) m

-- a part of field k is that part of the record
pub part-chain : (x : List ℕ) (xs : List (List ℕ)) (ws : List ℕ) → Widths (x ∷ xs) ws → (k i n : ℕ) → k < length ws → i + n ≤ get_or ws k 0
    → part (chain x xs) (start ws k + i) n ≡ part (get_or (x ∷ xs) k []) i n
unfolding joined
part-chain x xs ws h k i n l m =
    ap (λ (r : List ℕ). part r (start ws k + i) n) (chain-joined x xs) ∙ part-joined (x ∷ xs) ws h k i n l m
