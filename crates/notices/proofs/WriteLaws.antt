-- A write of three fields at once, after others. Assumes nothing.
use mathlib.Core.Path.{◌≡◌, refl, ap₂, ◌∙◌}
use mathlib.Core.List.{List, ◌++◌, append_assoc}
use Prim.Native.Nat.{ℕ, ◌+◌}
use lib.ListN.{length, length-append}
use Rattle.fields.specs.Digits.{digits}
use Rattle.fields.specs.Put.{put, filled}
use Rattle.fields.proofs.PutLaws.{Wrote, next}
use Rattle.notices.specs.Notices.{zeros}

pub next-three : {xs : List ℕ} {a : ℕ} {us ys vs : List ℕ} {n m k j : ℕ} → Wrote xs a us ys n → (x y z : List ℕ)
    → vs ≡ put us (a + n) (x ++ y ++ z) → length x ≡ m → length y ≡ k → length z ≡ j → Wrote xs a vs (ys ++ x ++ y ++ z) (n + (m + k + j))
next-three {xs} {a} {us} {ys} {vs} {n} {m} {k} {j} w x y z e p q r =
    rw (append_assoc (ys ++ x) y z, append_assoc ys x (y ++ z), ← append_assoc x y z)
    (next w (x ++ y ++ z) e (length-append (x ++ y) z ∙ ap₂ (λ (b c : ℕ). b + c) (length-append x y ∙ ap₂ (λ (b c : ℕ). b + c) p q) r))

-- a charge of nothing is written as zeros
pub no-charge : digits 13 0 ≡ zeros 13
unfolding digits filled
no-charge = refl
