-- The slots of the numbers met: two records with one number leave its slot noted twice. Assumes nothing.
use Prim.Native.Nat.{ℕ, ◌<◌}
use mathlib.Core.Path.{◌≡◌, refl, sym, ◌∙◌}
use mathlib.Core.Bool.{Bool, true, false, not, ◌&&◌, false≢true}
use mathlib.Core.List.{List}
use lib.ListN.{get_or}
use lib.Dec.{eqb}
use borrow.Author.Tests.{eqb-true, eqb-false, not-true}
use Rattle.fields.proofs.BoolLaws.{and_left, and_right}
use Rattle.pairs.specs.parts.GroupNumbers.{number_slot}

-- the slot of record k
abbrev pub slot_at : List ℕ → ℕ → ℕ
slot_at numbers k = number_slot (get_or numbers k 0)

-- every record before i is noted
abbrev pub Once : List ℕ → List Bool → ℕ → Type 0
Once numbers m i = (k : ℕ) → k < i → get_or m (slot_at numbers k) false ≡ true

-- and so is every one before i that has the number of an earlier one
abbrev pub Twice : List ℕ → List Bool → ℕ → Type 0
Twice numbers m i = (j k : ℕ) → j < k → k < i → get_or numbers j 0 ≡ get_or numbers k 0 → get_or m (slot_at numbers k) false ≡ true

-- the test of the walk, on the numbers of the records
abbrev pub meets : List ℕ → ℕ → ℕ → Bool
meets numbers i j = eqb (get_or numbers j 0) (get_or numbers i 0) && not (eqb j i)

-- where the slot of record i is not noted twice, no other has its number
pub unmet : (numbers : List ℕ) (m : List Bool) (i n : ℕ) → get_or m (slot_at numbers i) false ≡ false
    → ((j : ℕ) → j < n → (j ≡ i → ⊥) → get_or numbers j 0 ≡ get_or numbers i 0 → get_or m (slot_at numbers i) false ≡ true) → (j : ℕ) → j < n → meets numbers i j ≡ false
unmet numbers m i n e w j l = go (meets numbers i j) refl
  where
    go : (t : Bool) → meets numbers i j ≡ t → meets numbers i j ≡ false
    go false p = p
    go true p =
        let a = eqb-true (get_or numbers j 0) (get_or numbers i 0) (and_left (eqb (get_or numbers j 0) (get_or numbers i 0)) (not (eqb j i)) p) in
        let d = eqb-false j i (not-true (eqb j i) (and_right (eqb (get_or numbers j 0) (get_or numbers i 0)) (not (eqb j i)) p)) in
        absurd (false≢true (sym e ∙ w j l d a))

-- a guard that holds, and one that does not
pub guard-on : (x : ℕ) (b : Bool) → (not (eqb x 0) && b) ≡ true → x ≡ 0 → ⊥
guard-on x b e = eqb-false x 0 (not-true (eqb x 0) (and_left (not (eqb x 0)) b e))

pub guard-off : {A : Type 0} (x : ℕ) (b : Bool) → (not (eqb x 0) && b) ≡ false → (x ≡ 0 → A) → ((x ≡ 0 → ⊥) → b ≡ false → A) → A
guard-off {A} x b e f g = go (eqb x 0) refl e
  where
    go : (t : Bool) → eqb x 0 ≡ t → (not t && b) ≡ false → A
    go true p q = f (eqb-true x 0 p)
    go false p q = g (eqb-false x 0 p) q
