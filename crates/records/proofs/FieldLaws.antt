-- A record is a chain of fields: what stands at the place of a field is that field. Assumes nothing.
use mathlib.Core.Path.{◌≡◌, sym, ap, ◌∙◌}
use mathlib.Core.List.{List, [], ◌∷◌}
use Prim.Native.Nat.{ℕ, zero, suc, ◌<◌}
use native.Mathlib.Omega.{arith}
use native.Mathlib.Nat.{add-zero, not-suc-le-zero, le_of_suc-le-suc}
use lib.ListN.{length, get_or}
use Rattle.fields.specs.Put.{part}
use Rattle.fields.proofs.ChainLaws.{chain, Widths, start, part-chain}
use Rattle.fields.proofs.PutLaws.{part-whole}

-- each field has its width
width_of : (xs : List (List ℕ)) (ws : List ℕ) → Widths xs ws → (k : ℕ) → k < length ws → length (get_or xs k []) ≡ get_or ws k 0
width_of [] [] h k l = absurd (not-suc-le-zero l)
width_of [] (w ∷ ws) h k l = absurd h
width_of (x ∷ xs) [] h k l = absurd h
width_of (x ∷ xs) (w ∷ ws) h zero l = h.0
width_of (x ∷ xs) (w ∷ ws) h (suc k) l = width_of xs ws h.1 k (le_of_suc-le-suc l)

-- the whole of field k
pub field_at : (x : List ℕ) (xs : List (List ℕ)) (ws : List ℕ) → Widths (x ∷ xs) ws → (k : ℕ) → k < length ws
    → part (chain x xs) (start ws k) (get_or ws k 0) ≡ get_or (x ∷ xs) k []
field_at x xs ws h k l =
    ap (λ (j : ℕ). part (chain x xs) j (get_or ws k 0)) (sym (add-zero (start ws k)))
    ∙ part-chain x xs ws h k 0 (get_or ws k 0) l (omega arith)
    ∙ part-whole (get_or (x ∷ xs) k []) (get_or ws k 0) (width_of (x ∷ xs) ws h k l)
